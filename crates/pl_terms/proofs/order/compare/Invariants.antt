use Rattle.std.proofs.Common.{◌≡◌, drop}
use Rattle.std.specs.Cmp.Lexicographic.{slice_cmp}
use Rattle.pl_terms.specs.CellOrder.{cell_cmp, name_cmp}
use Rattle.pl_terms.proofs.order.compare.Given as goal

abbrev pub invariant-loop-at : goal.invariant-loop-at
invariant-loop-at l =
    slice_cmp (cell_cmp (name_cmp l.names)) (drop l.at l.left) (drop l.at l.right) ≡ slice_cmp (cell_cmp (name_cmp l.names)) l.left l.right
