use Rattle.std.proofs.Common.{◌≡◌, reverse}
use Rattle.unifier_model.specs.Substitution.{occurs_any}
use Rattle.pl_unify.specs.Prefix.{trees}
use Rattle.pl_unify.specs.Notes.{visit_trees, IsPassed}
use Rattle.pl_unify.proofs.Grounds.{Walking, step_weight}
use Rattle.pl_unify.proofs.store.Store.walk.Given as goal

abbrev pub invariant-steps : goal.invariant-steps
invariant-steps l = record {
  same : l.self.state ≡ l.initial.self.state;
  walking : Walking l.initial.self.state l.n l.met (reverse l.work.items) (occurs_any l.n (trees (visit_trees l.initial.self.state (reverse l.initial.work.items))));
  passed : IsPassed l.initial.self.state l.n l.passed.items;
}

abbrev pub decreases-steps : goal.decreases-steps
decreases-steps l = step_weight l.initial.self.state (reverse l.work.items)
