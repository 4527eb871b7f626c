use Rattle.std.proofs.Common.{◌≡◌, reverse}
use Rattle.pl_unify.specs.State.{tree_at, Grows}
use Rattle.goal_constructs.specs.Conversion.{Converting, owed}
use Rattle.goal_constructs.proofs.constructs.Constructs.convert_parts.Given as goal

abbrev pub invariant-loop-task : goal.invariant-loop-task
invariant-loop-task l = record {
  grows : Grows l.initial.store.state l.store.state;
  next : l.store.state.next ≡ l.initial.store.state.next;
  goes : Converting l.self l.store.state (reverse l.tasks.items) (reverse l.done.items) (tree_at l.initial.store.state l.fn.term);
}

abbrev pub decreases-loop-task : goal.decreases-loop-task
decreases-loop-task l = owed l.store.state (reverse l.tasks.items)
