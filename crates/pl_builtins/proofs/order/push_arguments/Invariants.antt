use Rattle.std.proofs.Common.{◌≤◌, reverse}
use Rattle.pl_builtins.specs.Ordered.{ArgumentsOn}
use Rattle.pl_builtins.proofs.order.push_arguments.Given as goal

abbrev pub invariant-loop-rest : goal.invariant-loop-rest
invariant-loop-rest l = record {
  few : l.rest ≤ l.count;
  on : ArgumentsOn l.store.state l.left l.right l.rest (reverse l.initial.work.items) (reverse l.work.items);
}

abbrev pub decreases-loop-rest : goal.decreases-loop-rest
decreases-loop-rest l = l.rest
