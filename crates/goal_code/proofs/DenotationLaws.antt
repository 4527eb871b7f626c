-- The goals of bodies are the items of a search.
use Rattle.std.proofs.Common.{◌≡◌, ℕ, Bool, true, false, [], ◌∷◌, ◌++◌, refl, sym, ap, ◌∙◌, map}
use Rattle.std.proofs.lemmas.List.{map-append}
use Rattle.std.specs.Prelude.{nat_eq, if◌then◌else◌}
use Rattle.pl_terms.specs.Trees.{Tree, var, int, atom, comp, nil, cons}
use Rattle.builtin_model.specs.Naming.{Naming}
use Rattle.goal_model.specs.Environments.{Environment}
use Rattle.goal_model.specs.Bodies.{flat}
use Rattle.goal_model.specs.Table.{body_items}
use Rattle.goal_code.specs.declared.shape.ControlNames.{ControlNames}
use Rattle.goal_code.specs.Shapes.{conjuncts, body_goals}
use Rattle.goal_code.specs.Denotation.{AreControlNames, called, ItemsAreGoals, FlatAreGoals}

module _ (n : Naming ℕ) (s : ControlNames) (are : AreControlNames n s) (env : Environment ℕ) (d : ℕ) where
  flat_goals : (t : Tree ℕ) → flat n t env d ≡ map (called env d) (conjuncts s t)
  flat_goals (var v) = refl
  flat_goals (int z) = refl
  flat_goals (atom a) = refl
  flat_goals (comp f nil) = refl
  flat_goals (comp f (cons l nil)) = refl
  flat_goals (comp f (cons l (cons r nil))) =
      ap (λ b. if b then flat n l env d ++ flat n r env d else called env d (comp f (cons l (cons r nil))) ∷ []) (are.conjunction f)
      ∙ go (nat_eq f s.conjunction.0) (flat_goals l) (flat_goals r)
    where
      go : (b : Bool) → flat n l env d ≡ map (called env d) (conjuncts s l) → flat n r env d ≡ map (called env d) (conjuncts s r)
          → (if b then flat n l env d ++ flat n r env d else called env d (comp f (cons l (cons r nil))) ∷ [])
          ≡ map (called env d) (if b then conjuncts s l ++ conjuncts s r else comp f (cons l (cons r nil)) ∷ [])
      go true h i = ap (λ x. x ++ flat n r env d) h ∙ (ap (λ x. map (called env d) (conjuncts s l) ++ x) i ∙ sym (map-append (called env d) (conjuncts s l) (conjuncts s r)))
      go false h i = refl
  flat_goals (comp f (cons l (cons r (cons u us)))) = refl

  body_goals_are : (t : Tree ℕ) → body_items n t env d ≡ map (called env d) (body_goals s t)
  body_goals_are (atom a) = ap (λ b. if b then [] else called env d (atom a) ∷ []) (are.truth a) ∙ go (nat_eq a s.truth.0)
    where
      go : (b : Bool) → (if b then [] else called env d (atom a) ∷ []) ≡ map (called env d) (if b then [] else atom a ∷ [])
      go true = refl
      go false = refl
  body_goals_are (var v) = flat_goals (var v)
  body_goals_are (int z) = flat_goals (int z)
  body_goals_are (comp f ts) = flat_goals (comp f ts)

pub flat_are_goals : (n : Naming ℕ) (s : ControlNames) → AreControlNames n s → FlatAreGoals n s
flat_are_goals n s are t env d = flat_goals n s are env d t

pub items_are_goals : (n : Naming ℕ) (s : ControlNames) → AreControlNames n s → ItemsAreGoals n s
items_are_goals n s are t env d = body_goals_are n s are env d t
