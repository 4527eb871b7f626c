-- The longest front that passes a test.
use Rattle.std.proofs.Common.{◌≡◌, ℕ, zero, suc, ◌<◌, List, [], ◌∷◌, length, take, Bool, true, refl, ap, ◌∙◌, arith}
use Rattle.std.specs.List.{take_while, prefix_len}
use Rattle.std.proofs.lemmas.Bool.{cond-true}
use Rattle.std.proofs.lemmas.List.Sums.{take_while-cons}
use Rattle.text_model.specs.Tokens.{head_of}

pub take-length-take : {A : Type 0} (n : ℕ) (xs : List A) → take (length (take n xs)) xs ≡ take n xs
take-length-take zero xs = refl
take-length-take (suc n) [] = refl
take-length-take (suc n) (x ∷ xs) = ap (λ l. x ∷ l) (take-length-take n xs)

-- a front cut off at its length
pub front_cut : {A : Type 0} (p : A → Bool) (xs : List A) (n : ℕ) → n ≡ length (take_while p xs) → take n xs ≡ take_while p xs
front_cut p xs n e = ap (λ k. take k xs) e ∙ take-length-take (prefix_len p xs) xs

pub front_some : (p : ℕ → Bool) (xs : List ℕ) → 0 < length xs → p (head_of xs) ≡ true → 0 < length (take_while p xs)
front_some p [] h e = absurd (omega arith)
front_some p (x ∷ xs) h e = omega (arith, ap length (take_while-cons p x xs ∙ cond-true (p x) (x ∷ take_while p xs) [] e))
