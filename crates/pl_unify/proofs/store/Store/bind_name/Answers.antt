use Rattle.std.proofs.Common.{ap, subst}
use Rattle.pl_terms.specs.Trees.{atom}
use Rattle.unifier_model.specs.Substitution.{occurs}
use Rattle.unifier_model.proofs.Replaced.{apply-atom}
use Rattle.pl_unify.specs.State.{Binds, bound}
use Rattle.pl_unify.proofs.store.Store.bind_name.Goals as goal

pub attach-requires-clause-absent : goal.attach-requires-clause-absent
attach-requires-clause-absent c = ap (occurs c.args.n) (apply-atom (bound c.reserve_binding.new.self.state) c.args.name.0)

pub returns-clause-binds : goal.returns-clause-binds
returns-clause-binds c =
    subst (λ s. Binds s c.attach.new.self.state c.args.n (atom c.args.name.0)) c.in_ok-reserve_binding.ensures.state
    (subst (Binds c.reserve_binding.new.self.state c.attach.new.self.state c.args.n) (apply-atom (bound c.reserve_binding.new.self.state) c.args.name.0) c.attach.ensures.binds)
