-- Places of frames.
use Rattle.std.proofs.Common.{◌≡◌, ℕ, zero, suc, ◌-◌, ◌<◌, ◌≤◌, Bool, true, false, List, [], ◌∷◌, Option, Some, None, refl, sym, ap, ◌∙◌, arith, length, reverse, take, inl, inr}
use Rattle.std.specs.Prelude.{nat_eq, slice_get}
use Rattle.std.proofs.lemmas.Bool.{cases_lt, eq-eqb}
use Rattle.goal_state.specs.Frames.{place_get}
use Rattle.goal_state.proofs.FramePlaces.{place_at}

lower : {A : Type 0} (b : Bool) (o q : Option A) → elim b as (λ _. Option A) [ true ↦ q | false ↦ o ] ≡ None → (q ≡ None → ⊥) → (o ≡ None → ⊥) → ⊥
lower true o q is top under = top is
lower false o q is top under = under is

at_top : {A : Type 0} (b : Bool) (o q : Option A) → b ≡ true → elim b as (λ _. Option A) [ true ↦ q | false ↦ o ] ≡ None → (q ≡ None → ⊥) → ⊥
at_top true o q e is top = top is
at_top false o q e is top = cc

-- something stands at each place that is there
pub place_there : {A : Type 0} (xs : List A) (k : ℕ) → 0 < k → k ≤ length xs → place_get xs k ≡ None → ⊥
place_there [] k some within is = omega (arith, some, within)
place_there {A = A} (x ∷ older) k some within is =
    elim (cases_lt k (suc (length older))) [
      | inl lt ↦ lower (nat_eq k (suc (length older))) (place_get older k) (Some x) is (λ i. cc) (λ i. place_there older k some (omega (arith, lt)) i)
      | inr ge ↦ at_top (nat_eq k (suc (length older))) (place_get older k) (Some x) (eq-eqb k (suc (length older)) (omega (arith, ge, within))) is (λ i. cc)
    ]

slice_take : {A : Type 0} (k i : ℕ) (xs : List A) → i < k → slice_get (take k xs) i ≡ slice_get xs i
slice_take k i [] lt = by_none k i
  where
    by_none : {A : Type 0} (k i : ℕ) → slice_get (take {A = A} k []) i ≡ slice_get [] i
    by_none zero i = refl
    by_none (suc k) i = refl
slice_take zero i (x ∷ xs) lt = absurd (omega (arith, lt))
slice_take (suc k) zero (x ∷ xs) lt = refl
slice_take (suc k) (suc i) (x ∷ xs) lt = slice_take k i xs (omega (arith, lt))

-- what stands at a place is that of the first ones
pub place_take : {A : Type 0} (k f : ℕ) (xs : List A) → 0 < f → f ≤ k → place_get (reverse (take k xs)) f ≡ place_get (reverse xs) f
place_take k f xs some le =
    let ne : f ≡ 0 → ⊥ = λ e. omega (arith, e, some) in
    sym (place_at (take k xs) f ne) ∙ slice_take k (f - 1) xs (omega (arith, some, le)) ∙ place_at xs f ne

-- lists with the same first ones have the same at a place
pub place_same : {A : Type 0} (k f : ℕ) (xs ys : List A) → 0 < f → f ≤ k → take k ys ≡ take k xs → place_get (reverse ys) f ≡ place_get (reverse xs) f
place_same k f xs ys some le same = sym (place_take k f ys some le) ∙ ap (λ l. place_get (reverse l) f) same ∙ place_take k f xs some le
