-- Numbers in digits.
use Rattle.std.proofs.Common.{◌≡◌, ℕ, ◌+◌, ◌-◌, ◌*◌, ◌^◌, ◌<◌, ◌≤◌, List, [], ◌∷◌, Option, Some, None, true, false, cond, ◌&&◌, nat_le, get_or, drop, length, refl, sym, ap, ◌∙◌, arith}
use Rattle.std.proofs.lemmas.Bool.{le-ltb, lt-ltb}
use Rattle.std.proofs.lemmas.List.{drop_more, drop_all}
use Rattle.plmod.specs.Words.{number_from, if_small}

pub too_large : (n : ℕ) (digits : List ℕ) → 2 ^ 64 ≤ n → if_small (number_from n digits) ≡ None
too_large n [] h = ap (λ t. cond t (Some n) None) (le-ltb n (2 ^ 64) h)
too_large n (b ∷ digits) h =
    elim (nat_le 48 b && nat_le b 57) as (λ t. if_small (cond t (number_from (n * 10 + (b - 48)) digits) None) ≡ None)
    [ true ↦ too_large (n * 10 + (b - 48)) digits (omega arith) | false ↦ refl ]

-- no digit is left
pub ended : (n i : ℕ) (digits : List ℕ) (all : Option ℕ) → n < 2 ^ 64 → length digits ≤ i → if_small (number_from n (drop i digits)) ≡ all → Some n ≡ all
ended n i digits all small h same =
    sym (ap (λ t. cond t (Some n) None) (lt-ltb n (2 ^ 64) small)) ∙ sym (ap (λ l. if_small (number_from n l)) (drop_all i digits h)) ∙ same

-- one more digit
pub with_one : (n i b : ℕ) (digits : List ℕ) (all : Option ℕ) → i < length digits → b ≡ get_or digits i 0 → (nat_le 48 b && nat_le b 57) ≡ true
    → if_small (number_from n (drop i digits)) ≡ all → if_small (number_from (n * 10 + (b - 48)) (drop (i + 1) digits)) ≡ all
with_one n i b digits all h at digit same =
    sym (ap (λ t. if_small (cond t (number_from (n * 10 + (b - 48)) (drop (i + 1) digits)) None)) digit)
    ∙ ap (λ d. if_small (number_from n (d ∷ drop (i + 1) digits))) at
    ∙ sym (ap (λ l. if_small (number_from n l)) (drop_more digits i 0 h)) ∙ same

-- one more digit makes it too large
pub one_too_many : (n i b : ℕ) (digits : List ℕ) (all : Option ℕ) → i < length digits → b ≡ get_or digits i 0 → (nat_le 48 b && nat_le b 57) ≡ true
    → if_small (number_from n (drop i digits)) ≡ all → 2 ^ 64 ≤ n * 10 + (b - 48) → None ≡ all
one_too_many n i b digits all h at digit same large =
    sym (too_large (n * 10 + (b - 48)) (drop (i + 1) digits) large) ∙ with_one n i b digits all h at digit same
