use Rattle.pl_unify.specs.Steps.{unbound, equations}
use Rattle.pl_unify.proofs.Unifying.{Progress}
use Rattle.pl_unify.proofs.store.Store.solve.Given as goal

abbrev pub invariant-turns : goal.invariant-turns
invariant-turns l = Progress l.initial.self.state l.self.state (equations l.initial.self.state l.initial.work.items) l.work.items

abbrev pub decreases-turns : goal.decreases-turns
decreases-turns l = unbound l.self.state.next l.self.state.links
