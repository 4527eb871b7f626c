use Rattle.std.proofs.Common.{◌≤◌, reverse}
use Rattle.pl_unify.specs.State.{tree_at}
use Rattle.pl_builtin_terms.specs.Walk.{ArgumentsOn}
use Rattle.pl_builtin_terms.proofs.variables.push_arguments.Given as goal

abbrev pub invariant-loop-left : goal.invariant-loop-left
invariant-loop-left l = record {
  few : l.left ≤ l.count;
  on : ArgumentsOn l.store.state (tree_at l.store.state l.place) l.left (reverse l.initial.work.items) (reverse l.work.items);
}

abbrev pub decreases-loop-left : goal.decreases-loop-left
decreases-loop-left l = l.left
