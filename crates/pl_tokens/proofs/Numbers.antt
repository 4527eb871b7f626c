-- Values of digits.
use Rattle.std.proofs.Common.{◌≡◌, ℕ, ◌+◌, ◌*◌, ◌≤◌, ◌<◌, List, [], ◌∷◌, length, drop, get_or, ◌∙◌, arith}
use Rattle.std.proofs.lemmas.List.{at_drop_more}
use Rattle.text_model.specs.Tokens.{value_after, digit_value}

le-mul : (n base : ℕ) → 0 < base → n ≤ n * base
le-mul n base h = grind arith

pub value_after_grows : (base n : ℕ) (ds : List ℕ) → 0 < base → n ≤ value_after base n ds
value_after_grows base n [] h = omega arith
value_after_grows base n (b ∷ bs) h =
    omega (arith, le-mul n base h, value_after_grows base (n * base + digit_value b) bs h)

pub value_over : (base n m limit i : ℕ) (ds : List ℕ) → 0 < base → i < length ds → value_after base 0 ds ≡ value_after base n (drop i ds) → m ≡ n * base + digit_value (get_or ds i 0) → limit < m → limit < value_after base 0 ds
value_over base n m limit i ds h within same is over =
    omega (arith, same ∙ at_drop_more (value_after base n) ds i 0 within, value_after_grows base (n * base + digit_value (get_or ds i 0)) (drop (i + 1) ds) h)
