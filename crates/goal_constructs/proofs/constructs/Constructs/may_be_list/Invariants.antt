use Rattle.std.proofs.Common.{◌≡◌}
use Rattle.unifier_model.specs.Substitution.{size}
use Rattle.pl_unify.specs.State.{tree_at, IsRef}
use Rattle.goal_constructs.specs.Balls.{after_cells}
use Rattle.goal_constructs.proofs.constructs.Constructs.may_be_list.Given as goal

abbrev pub invariant-loop-next : goal.invariant-loop-next
invariant-loop-next l = record {
  place : IsRef l.store.state l.rest;
  same : after_cells l.self.names (tree_at l.store.state l.fn.term) ≡ after_cells l.self.names (tree_at l.store.state l.rest);
}

abbrev pub decreases-loop-next : goal.decreases-loop-next
decreases-loop-next l = size (tree_at l.store.state l.rest)
