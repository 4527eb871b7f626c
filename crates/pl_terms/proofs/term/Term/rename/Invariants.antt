use Rattle.std.proofs.Common.{◌≡◌, ◌+◌, map, take}
use Rattle.pl_terms.specs.CellNumbers.{cell_by}
use Rattle.pl_terms.proofs.term.Term.rename.Given as goal

abbrev pub invariant-loop-cell : goal.invariant-loop-cell
invariant-loop-cell l = l.renamed ≡ map (cell_by (λ n. n + l.base)) (take l.cell-index l.cells)
