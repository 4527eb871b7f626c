use Rattle.std.proofs.Common.{◌≡◌, ◌≤◌, List, ℕ, zero, suc, [], ◌∷◌, length, take, refl, ap, sym, ◌∙◌, arith}
use Rattle.pl_terms.specs.declared.cell.Cell.{Cell}
use Rattle.pl_reader.proofs.reading.term_of.Goals as goal

whole : (n : ℕ) (xs : List Cell) → length xs ≤ n → take n xs ≡ xs
whole zero [] h = refl
whole zero (x ∷ xs) h = absurd (omega arith)
whole (suc n) [] h = refl
whole (suc n) (x ∷ xs) h = ap (λ l. x ∷ l) (whole n xs (omega arith))

pub unreachable-requires : goal.unreachable-requires
unreachable-requires c = c.in-Err.ensures.no_term c.requires.whole.0 (c.requires.whole.1 ∙ sym (whole c.loop-cell.cell-index c.args.prefix.now c.loop-cell-test.false) ∙ sym c.loop-cell.invariant)
