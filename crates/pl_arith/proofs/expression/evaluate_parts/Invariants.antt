use Rattle.std.proofs.Common.{◌≡◌, length, reverse, []}
use Rattle.pl_unify.specs.State.{tree_at}
use Rattle.value_model.specs.Value.{value}
use Rattle.pl_arith.specs.Tasks.{TasksOk, LeavesOne, run, pushed, weights}
use Rattle.pl_arith.proofs.expression.evaluate_parts.Given as goal

abbrev pub invariant-loop-task : goal.invariant-loop-task
invariant-loop-task l = record {
  ok : TasksOk l.store.state (reverse l.work.items);
  enough : LeavesOne (reverse l.work.items) (length (reverse l.numbers.items));
  same : run l.store.state l.names (reverse l.work.items) (reverse l.numbers.items) ≡ pushed (value l.names (tree_at l.store.state l.fn.at)) [];
}

abbrev pub decreases-loop-task : goal.decreases-loop-task
decreases-loop-task l = weights l.store.state (reverse l.work.items)
