use Rattle.unit_format.specs.Counting.{counted_within}
use Rattle.unit_format.specs.Uses.{cell_variables}
use Rattle.std.specs.List.{flat_map}
use Rattle.unit_format.proofs.CountLoop.{Left}
use Rattle.unit_format.proofs.order.after_variables.Given as goal

abbrev pub invariant-loop-cell : goal.invariant-loop-cell
invariant-loop-cell l = Left cell_variables l.limit l.next l.cell-index l.cells (counted_within l.limit l.fn.next (flat_map cell_variables l.cells))
