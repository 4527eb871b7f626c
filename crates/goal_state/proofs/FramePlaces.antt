-- Places in lists.
use Rattle.std.proofs.Common.{◌≡◌, ℕ, zero, suc, ◌-◌, ◌<◌, ◌≤◌, Bool, true, false, List, [], ◌∷◌, ◌++◌, Option, Some, None, refl, sym, ap, ◌∙◌, ◌⊎◌, inl, inr, arith, reverse, length, length-append}
use Rattle.std.specs.Prelude.{nat_eq, slice_get}
use Rattle.std.proofs.lemmas.Bool.{cases_lt, eqb-true, eq-eqb}
use Rattle.std.proofs.lemmas.List.{reverse-append, length-reverse, reverse-reverse}
use Rattle.std.proofs.lemmas.Option.{slice_get_past}
use Rattle.goal_state.specs.Frames.{place_get}

pub reverse-push : {A : Type 0} (xs : List A) (x : A) → reverse (xs ++ x ∷ []) ≡ x ∷ reverse xs
reverse-push xs x = reverse-append xs (x ∷ [])

pub ne-eqb : (a b : ℕ) → (a ≡ b → ⊥) → nat_eq a b ≡ false
ne-eqb a b h = go (nat_eq a b) refl
  where
    go : (t : Bool) → nat_eq a b ≡ t → t ≡ false
    go true p = absurd (h (eqb-true a b p))
    go false p = refl

slice_get-left : {A : Type 0} (xs ys : List A) (k : ℕ) → k < length xs → slice_get (xs ++ ys) k ≡ slice_get xs k
slice_get-left [] ys k h = absurd (omega arith)
slice_get-left (x ∷ xs) ys zero h = refl
slice_get-left (x ∷ xs) ys (suc k) h = slice_get-left xs ys k (omega arith)

slice_get-seam : {A : Type 0} (xs : List A) (y : A) → slice_get (xs ++ y ∷ []) (length xs) ≡ Some y
slice_get-seam [] y = refl
slice_get-seam (x ∷ xs) y = slice_get-seam xs y

place_slice : {A : Type 0} (newest : List A) (k : ℕ) → slice_get (reverse newest) k ≡ place_get newest (suc k)
place_slice [] k = refl
place_slice {A = A} (x ∷ older) k =
    elim (cases_lt k (length older)) [ inl lt ↦ lower lt (place_slice older k) | inr ge ↦ upper ge ]
  where
    split : slice_get (reverse (x ∷ older)) k ≡ slice_get (reverse older ++ x ∷ []) k
    split = ap (λ s. slice_get s k) (reverse-append (x ∷ []) older)

    lower : k < length older → slice_get (reverse older) k ≡ place_get older (suc k) → slice_get (reverse (x ∷ older)) k ≡ elim (nat_eq (suc k) (suc (length older))) [ true ↦ Some x | false ↦ place_get older (suc k) ]
    lower lt ih =
        let w : k < length (reverse older) = omega (arith, length-reverse older) in
        let ne : nat_eq (suc k) (suc (length older)) ≡ false = ne-eqb (suc k) (suc (length older)) (λ e. absurd (omega (arith, e, lt))) in
        split ∙ slice_get-left (reverse older) (x ∷ []) k w ∙ ih
        ∙ sym (ap (λ b. elim b [ true ↦ Some x | false ↦ place_get older (suc k) ]) ne)

    upper : length older ≤ k → slice_get (reverse (x ∷ older)) k ≡ elim (nat_eq (suc k) (suc (length older))) [ true ↦ Some x | false ↦ place_get older (suc k) ]
    upper ge = go (nat_eq (suc k) (suc (length older))) refl
      where
        past : (ys : List A) (j : ℕ) → length ys < j → place_get ys j ≡ None
        past [] j h = refl
        past (y ∷ ys) j h =
            let ne : nat_eq j (suc (length ys)) ≡ false = ne-eqb j (suc (length ys)) (λ e. absurd (omega (arith, e, h))) in
            ap (λ b. elim b [ true ↦ Some y | false ↦ place_get ys j ]) ne ∙ past ys j (omega arith)

        go : (b : Bool) → nat_eq (suc k) (suc (length older)) ≡ b → slice_get (reverse (x ∷ older)) k ≡ elim b [ true ↦ Some x | false ↦ place_get older (suc k) ]
        go true p =
            let e : length (reverse older) ≡ k = omega (arith, length-reverse older, eqb-true (suc k) (suc (length older)) p) in
            split ∙ ap (slice_get (reverse older ++ x ∷ [])) (sym e) ∙ slice_get-seam (reverse older) x
        go false p =
            let ne : k ≡ length older → ⊥ = λ e. let q : nat_eq (suc k) (suc (length older)) ≡ true = eq-eqb (suc k) (suc (length older)) (ap suc e) in cc in
            let far : length older < k = gap (cases_lt (length older) k) in
            split
            ∙ slice_get_past (reverse older ++ x ∷ []) k (omega (arith, length-append (reverse older) (x ∷ []), length-reverse older))
            ∙ sym (past older (suc k) (omega arith))
          where
            gap : (length older < k) ⊎ (k ≤ length older) → length older < k
            gap (inl lt) = lt
            gap (inr le) = absurd (let q : nat_eq (suc k) (suc (length older)) ≡ true = eq-eqb (suc k) (suc (length older)) (omega (arith, ge, le)) in let r : true ≡ false = sym q ∙ p in cc)

pub place_of_slice : {A : Type 0} (xs : List A) (k : ℕ) → slice_get xs k ≡ place_get (reverse xs) (suc k)
place_of_slice xs k = ap (λ s. slice_get s k) (sym (reverse-reverse xs)) ∙ place_slice (reverse xs) k

pub place_zero : {A : Type 0} (newest : List A) → place_get newest 0 ≡ None
place_zero [] = refl
place_zero (x ∷ older) =
    let ne : nat_eq 0 (suc (length older)) ≡ false = ne-eqb 0 (suc (length older)) (λ e. absurd (omega (arith, e))) in
    ap (λ b. elim b [ true ↦ Some x | false ↦ place_get older 0 ]) ne ∙ place_zero older

pub place_at : {A : Type 0} (xs : List A) (k : ℕ) → (k ≡ 0 → ⊥) → slice_get xs (k - 1) ≡ place_get (reverse xs) k
place_at xs k h = place_of_slice xs (k - 1) ∙ ap (place_get (reverse xs)) (let e : suc (k - 1) ≡ k = omega (arith, h) in e)

pub place_within : {A : Type 0} (ys : List A) (k : ℕ) (y : A) → place_get ys k ≡ Some y → k ≤ length ys
place_within [] k y h = cc
place_within {A = A} (z ∷ ys) k y h = by_test (nat_eq k (suc (length ys))) refl h (λ i. place_within ys k y i)
  where
    by_test : (b : Bool) → nat_eq k (suc (length ys)) ≡ b → elim b as (λ _. Option A) [ true ↦ Some z | false ↦ place_get ys k ] ≡ Some y → (place_get ys k ≡ Some y → k ≤ length ys) → k ≤ suc (length ys)
    by_test true p i ih = omega (arith, eqb-true k (suc (length ys)) p)
    by_test false p i ih = let l : k ≤ length ys = ih i in omega (arith, l)
