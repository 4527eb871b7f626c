-- Numbers of texts in a table.
use Rattle.std.proofs.Common.{◌≡◌, ◌∙◌, ℕ, zero, suc, ◌+◌, ◌<◌, ◌≤◌, Bool, true, false, cond, not, nat_lt, List, [], ◌∷◌, length, slice_get, get_or, Some, None, ap, sym, arith}
use Rattle.std.specs.Prelude.{unwrap_or}
use Rattle.std.specs.List.{position_or_len}
use Rattle.std.proofs.lemmas.List.Quantifiers.{position-Some}
use Rattle.std.proofs.lemmas.Option.{slice_get_within, get_or_from_slice_get}
use Rattle.pl_atoms.specs.Names.{same_text, text_place, AreDistinct, IsFront}
use Rattle.pl_atoms.proofs.Numbers.{number-is, slice_get-front}
use Rattle.pl_atoms.proofs.Texts.{same_text-is, same_text-itself}
use Rattle.builtin_model.specs.Naming.{number_in}

-- the first place that passes is not behind another one
first-low : {A : Type 0} (p : A → Bool) (xs : List A) (n : ℕ) (d : A) → n < length xs → p (get_or xs n d) ≡ true → position_or_len p xs ≤ n
first-low p [] n d h e = absurd (omega arith)
first-low p (x ∷ xs) zero d h e = rw e (omega arith)
first-low p (x ∷ xs) (suc n) d h e = by (p x) (first-low p xs n d (omega arith) e)
  where
    by : (b : Bool) → position_or_len p xs ≤ n → cond (not b) (1 + position_or_len p xs) 0 ≤ suc n
    by true k = omega arith
    by false k = omega arith

lt-true : (k n : ℕ) → k < n → nat_lt k n ≡ true
lt-true k n h = search arith

-- a text that stands at a place of a table has that number
pub number-known : (names : List (List ℕ)) → AreDistinct names → (t : List ℕ) (n : ℕ) → slice_get names n ≡ Some t → number_in names t ≡ n
number-known names distinct t n at =
    let within : n < length names = slice_get_within names n t at in
    let here : get_or names n [] ≡ t = get_or_from_slice_get names n t [] at in
    let k : ℕ = position_or_len (same_text t) names in
    let low : k ≤ n = first-low (same_text t) names n [] within (ap (same_text t) here ∙ same_text-itself t) in
    let found : text_place names t ≡ Some k = ap (λ b. cond b (Some k) None) (lt-true k (length names) (omega arith)) in
    let h = position-Some (same_text t) names k [] found in
    ap (λ o. unwrap_or o (length names)) found ∙ number-is names distinct k n h.0 within (sym (same_text-is t (get_or names k []) h.1) ∙ sym here)

-- and keeps it where the table grows
pub number-kept : (old new : List (List ℕ)) → IsFront old new → AreDistinct new → (t : List ℕ) (n : ℕ) → slice_get old n ≡ Some t → n ≡ number_in new t
number-kept old new front distinct t n at = sym (number-known new distinct t n (slice_get-front old new front n t at))
