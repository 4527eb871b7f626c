use Rattle.unit_format.specs.Counting.{counted_within}
use Rattle.unit_format.specs.Uses.{cell_names}
use Rattle.std.specs.List.{flat_map}
use Rattle.unit_format.proofs.CountLoop.{Left}
use Rattle.unit_format.proofs.order.after_names.Given as goal

abbrev pub invariant-loop-cell : goal.invariant-loop-cell
invariant-loop-cell l = Left cell_names l.limit l.next l.cell-index l.cells (counted_within l.limit l.fn.next (flat_map cell_names l.cells))
