use Rattle.std.proofs.Common.{◌≡◌, ◌+◌, ◌-◌}
use Rattle.unifier_model.specs.Substitution.{occurs_any}
use Rattle.pl_unify.specs.Notes.{block}
use Rattle.pl_unify.proofs.store.Store.look.Given as goal

abbrev pub invariant-loop-k : goal.invariant-loop-k
invariant-loop-k l = occurs_any l.n (block l.self.state (l.first + l.k) (l.count - l.k)) ≡ occurs_any l.n (block l.self.state l.first l.count)
