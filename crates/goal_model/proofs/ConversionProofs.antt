-- Terms by numbers are converted as terms by texts are.
use Rattle.std.proofs.Common.{◌≡◌, ℕ, List, Bool, true, false, Option, Some, None, refl, ap, ◌∙◌, if◌then◌else◌}
use Rattle.std.specs.Prelude.{option_map}
use Rattle.pl_terms.specs.Trees.{Tree, var, int, atom, comp, nil, cons, renamed}
use Rattle.unit_model.specs.Directives.{control, is_control, converted as converted_text}
use Rattle.builtin_model.specs.Naming.{Naming}
use Rattle.goal_model.specs.Bodies.{joined, converted}
use Rattle.goal_model.specs.TextLaws.{ConvertsAlike}

module _ {N : Type 0} (n : Naming N) where
  abbrev by_text : Option (Tree N) → Option (Tree (List ℕ))
  by_text = option_map (renamed n.text)

  joined_texts : (f : N) (p q : Option (Tree N)) → by_text (joined f p q) ≡ control (n.text f) (by_text p) (by_text q)
  joined_texts f None q = refl
  joined_texts f (Some l) None = refl
  joined_texts f (Some l) (Some r) = refl

  by_control : (b : Bool) (f : N) (p q : Option (Tree N)) (t : Tree N) → by_text (if b then joined f p q else Some t) ≡ (if b then control (n.text f) (by_text p) (by_text q) else Some (renamed n.text t))
  by_control true f p q t = joined_texts f p q
  by_control false f p q t = refl

  pub converts_alike : ConvertsAlike n
  converts_alike call (var v) = ap (λ s. Some (comp s (cons (var v) nil))) call
  converts_alike call (int z) = refl
  converts_alike call (atom s) = refl
  converts_alike call (comp f nil) = refl
  converts_alike call (comp f (cons l nil)) = refl
  converts_alike call (comp f (cons l (cons r (cons t ts)))) = refl
  converts_alike call (comp f (cons l (cons r nil))) =
      by_control (is_control (n.text f)) f (converted n l) (converted n r) (comp f (cons l (cons r nil)))
      ∙ ap (λ p. parts (is_control (n.text f)) p (by_text (converted n r))) (converts_alike call l)
      ∙ ap (λ q. parts (is_control (n.text f)) (converted_text (renamed n.text l)) q) (converts_alike call r)
    where
      parts : Bool → Option (Tree (List ℕ)) → Option (Tree (List ℕ)) → Option (Tree (List ℕ))
      parts b p q = if b then control (n.text f) p q else Some (renamed n.text (comp f (cons l (cons r nil))))
