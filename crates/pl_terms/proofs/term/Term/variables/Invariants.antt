use Rattle.std.proofs.Common.{◌≡◌, [], take}
use Rattle.pl_terms.specs.Occurrence.{first_after}
use Rattle.pl_terms.specs.CellNumbers.{numbers}
use Rattle.pl_terms.proofs.term.Term.variables.Given as goal

abbrev pub invariant-loop-cell : goal.invariant-loop-cell
invariant-loop-cell l = l.seen.keys ≡ first_after [] (numbers (take l.cell-index l.cells))
