use Rattle.pl_unify.specs.State.{tree_at}
use Rattle.goal_moves.proofs.ArgumentLaws.{AreFirst}
use Rattle.goal_moves.proofs.builtins.arguments.Given as goal

abbrev pub invariant-loop-k : goal.invariant-loop-k
invariant-loop-k l = record {
  first : AreFirst l.store.state (tree_at l.store.state l.goal) l.k l.args.items;
}
