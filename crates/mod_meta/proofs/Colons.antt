-- The number of the name : in a table.
use Rattle.std.proofs.Common.{◌≡◌, ◌∙◌, ℕ, zero, suc, ◌+◌, ◌<◌, ◌≤◌, Bool, true, false, cond, not, nat_lt, nat_eq, List, [], ◌∷◌, length, slice_get, get_or, Some, None, codes, refl, ap, sym, arith, inl, inr, ◌⊎◌, eqb-true, eq-eqb}
use Rattle.std.specs.Prelude.{unwrap_or}
use Rattle.std.specs.List.{position_or_len}
use Rattle.std.proofs.lemmas.List.{get_or_past}
use Rattle.std.proofs.lemmas.List.Quantifiers.{position-Some}
use Rattle.std.proofs.lemmas.Option.{slice_get_within, get_or_from_slice_get}
use Rattle.pl_atoms.specs.Names.{same_text, text_place, AreDistinct}
use Rattle.pl_atoms.proofs.Numbers.{number-is}
use Rattle.pl_atoms.proofs.Texts.{same_text-is, same_text-itself}
use Rattle.pl_terms.specs.Order.{text_of}
use Rattle.builtin_model.specs.Naming.{number_in, by_numbers}
use Rattle.mod_meta.specs.Qualified.{IsColon}

-- the first place that passes is not behind another one
first-low : {A : Type 0} (p : A → Bool) (xs : List A) (n : ℕ) (d : A) → n < length xs → p (get_or xs n d) ≡ true → position_or_len p xs ≤ n
first-low p [] n d h e = absurd (omega arith)
first-low p (x ∷ xs) zero d h e = rw e (omega arith)
first-low p (x ∷ xs) (suc n) d h e = by (p x) (first-low p xs n d (omega arith) e)
  where
    by : (b : Bool) → position_or_len p xs ≤ n → cond (not b) (1 + position_or_len p xs) 0 ≤ suc n
    by true k = omega arith
    by false k = omega arith

lt-true : (k n : ℕ) → k < n → nat_lt k n ≡ true
lt-true k n h = search arith

-- a text that stands at a place of a table has that number
number-known : (names : List (List ℕ)) → AreDistinct names → (t : List ℕ) (n : ℕ) → slice_get names n ≡ Some t → number_in names t ≡ n
number-known names distinct t n at =
    let within : n < length names = slice_get_within names n t at in
    let here : get_or names n [] ≡ t = get_or_from_slice_get names n t [] at in
    let k : ℕ = position_or_len (same_text t) names in
    let low : k ≤ n = first-low (same_text t) names n [] within (ap (same_text t) here ∙ same_text-itself t) in
    let found : text_place names t ≡ Some k = ap (λ b. cond b (Some k) None) (lt-true k (length names) (omega arith)) in
    let h = position-Some (same_text t) names k [] found in
    ap (λ o. unwrap_or o (length names)) found ∙ number-is names distinct k n h.0 within (sym (same_text-is t (get_or names k []) h.1) ∙ sym here)

same_tests : (a b : Bool) → (a ≡ true → b ≡ true) → (b ≡ true → a ≡ true) → a ≡ b
same_tests true b f g = sym (f refl)
same_tests false true f g = g refl
same_tests false false f g = refl

within-or-past : (f n : ℕ) → (f < n) ⊎ (n ≤ f)
within-or-past f n = search arith

colon-there : (names : List (List ℕ)) → AreDistinct names → (t : List ℕ) (n : ℕ) → slice_get names n ≡ Some t → same_text [] t ≡ false → (f : ℕ) → (f < length names) ⊎ (length names ≤ f)
    → same_text (text_of names f) t ≡ true → nat_eq f n ≡ true
colon-there names distinct t n at apart f (inl l) h =
    eq-eqb f n (number-is names distinct f n l (slice_get_within names n t at) (same_text-is (get_or names f []) t h ∙ sym (get_or_from_slice_get names n t [] at)))
colon-there names distinct t n at apart f (inr l) h =
    let e : same_text [] t ≡ true = ap (λ s. same_text s t) (sym (get_or_past names f [] l)) ∙ h in
    cc

colon-back : (names : List (List ℕ)) (t : List ℕ) (n : ℕ) → slice_get names n ≡ Some t → (f : ℕ) → nat_eq f n ≡ true → same_text (text_of names f) t ≡ true
colon-back names t n at f h =
    ap (λ k. same_text (text_of names k) t) (eqb-true f n h) ∙ (ap (λ s. same_text s t) (get_or_from_slice_get names n t [] at) ∙ same_text-itself t)

colon-alone : (names : List (List ℕ)) → AreDistinct names → (t : List ℕ) (n : ℕ) → slice_get names n ≡ Some t → same_text [] t ≡ false → (f : ℕ) → same_text (text_of names f) t ≡ nat_eq f n
colon-alone names distinct t n at apart f =
    same_tests (same_text (text_of names f) t) (nat_eq f n) (colon-there names distinct t n at apart f (within-or-past f (length names))) (colon-back names t n at f)

pub colon-is : (names : List (List ℕ)) (colon : ℕ) → AreDistinct names → slice_get names colon ≡ Some (codes ":") → IsColon (by_numbers names) colon
colon-is names colon distinct at = record {
  named = number-known names distinct (codes ":") colon at;
  alone = colon-alone names distinct (codes ":") colon at refl;
}
