-- Text that grew, or did not.
use Rattle.std.proofs.Common.{◌≡◌, ℕ, ◌<◌, ◌≤◌, false, codes, refl, List, ◌++◌, ap, ◌∙◌, arith, length, length-append, append-nil}
use Rattle.std.specs.Prelude.{nat_lt}
use Rattle.std.proofs.lemmas.Bool.{ltb-false}
use Rattle.std.proofs.lemmas.List.{nil_from_length}

pub quiet_text : (before after b a bytes : List ℕ) → b ≡ before → a ≡ after → after ≡ before ++ bytes → nat_lt (length b) (length a) ≡ false → after ≡ before
quiet_text before after b a bytes p q e h =
    let le : length a ≤ length b = ltb-false (length b) (length a) h in
    let more : length after ≡ length (before ++ bytes) = ap length e in
    let none : length bytes ≡ 0 = omega (arith, le, more, length-append before bytes, ap length p, ap length q) in
    e ∙ ap (λ l. before ++ l) (nil_from_length bytes none) ∙ append-nil before

-- the line of an answer is not empty
pub line_grows : (before after line front : List ℕ) → after ≡ before ++ line → line ≡ front ++ codes " ;\n" → length before < length after
line_grows before after line front text is =
    let end : length (codes " ;\n") ≡ 3 = refl in
    omega (arith, ap length text, length-append before line, ap length is, length-append front (codes " ;\n"), end)
