use Rattle.std.proofs.Common.{◌-◌, length}
use Rattle.term_walk.proofs.Walking.{Going}
use Rattle.term_walk.proofs.walk.tree_end.Given as goal

abbrev pub invariant-loop-pending : goal.invariant-loop-pending
invariant-loop-pending l = Going l.cells l.at l.pending

abbrev pub decreases-loop-pending : goal.decreases-loop-pending
decreases-loop-pending l = length l.cells - l.at
