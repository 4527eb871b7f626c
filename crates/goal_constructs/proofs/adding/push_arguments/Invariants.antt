use Rattle.std.proofs.Common.{◌-◌}
use Rattle.pl_unify.specs.State.{tree_at}
use Rattle.goal_constructs.specs.Calling.{Pushed}
use Rattle.goal_constructs.proofs.adding.push_arguments.Given as goal

abbrev pub invariant-loop-k : goal.invariant-loop-k
invariant-loop-k l = Pushed l.store.state l.initial.parts.items l.parts.items (tree_at l.store.state l.at) l.initial.k l.k

abbrev pub decreases-loop-k : goal.decreases-loop-k
decreases-loop-k l = l.count - l.k
