use Rattle.std.proofs.Common.{ℕ, ◌<◌, get_or}
use Rattle.pl_terms.specs.declared.cell.Cell.TheVariants.{Var}
use Rattle.writing_laws.specs.Ranges.{IsRanged}
use Rattle.writing_laws.proofs.all_ranged.Given as goal

abbrev pub invariant-loop-cell : goal.invariant-loop-cell
invariant-loop-cell l = (k : ℕ) → k < l.cell-index → IsRanged (get_or l.cells k (Var 0))
