-- Numbers noted one after another.
use Rattle.std.proofs.Common.{◌≡◌, ℕ, ◌+◌, ◌<◌, List, [], ◌∷◌, ◌++◌, length, take, get_or, sym, ap, ◌∙◌}
use Rattle.std.specs.List.{flat_map}
use Rattle.std.proofs.lemmas.List.{take_more, append-nil}
use Rattle.std.proofs.lemmas.List.Concat.{flat_map-append}
use Rattle.std.proofs.lemmas.List.Sums.{fold-append}
use Rattle.unit_order.specs.Numbering.{noted, all_noted}

-- those of one more item, as a loop notes them
module _ {A : Type 0} (f : A → List ℕ) where
  pub noted_more : (xs : List A) (i : ℕ) (d x : A) (start now next : List ℕ) → i < length xs → get_or xs i d ≡ x
      → now ≡ all_noted start (flat_map f (take i xs)) → next ≡ all_noted now (f x) → next ≡ all_noted start (flat_map f (take (i + 1) xs))
  noted_more xs i d x start now next lt is so_far step =
      step
      ∙ ap (λ l. all_noted l (f x)) so_far
      ∙ sym (fold-append noted start (flat_map f (take i xs)) (f x))
      ∙ ap (λ y. all_noted start (flat_map f (take i xs) ++ y)) (sym (append-nil (f x)))
      ∙ ap (all_noted start) (sym (flat_map-append f (take i xs) (x ∷ [])))
      ∙ ap (λ y. all_noted start (flat_map f (take i xs ++ y ∷ []))) (sym is)
      ∙ ap (λ ys. all_noted start (flat_map f ys)) (sym (take_more xs i d lt))

-- those of two parts
pub noted_both : (start now next xs ys : List ℕ) → now ≡ all_noted start xs → next ≡ all_noted now ys → next ≡ all_noted start (xs ++ ys)
noted_both start now next xs ys first second = second ∙ ap (λ l. all_noted l ys) first ∙ sym (fold-append noted start xs ys)
