use Rattle.std.proofs.Common.{◌∙◌, ap, subst}
use Rattle.std.specs.Int.{w64}
use Rattle.std.proofs.lemmas.Int.{to_z-of_z}
use Rattle.pl_terms.specs.Trees.{int}
use Rattle.unifier_model.specs.Substitution.{occurs}
use Rattle.unifier_model.proofs.Replaced.{apply-int}
use Rattle.pl_unify.specs.State.{Binds, bound}
use Rattle.pl_unify.proofs.store.Store.bind_int.Goals as goal

pub attach-requires-clause-absent : goal.attach-requires-clause-absent
attach-requires-clause-absent c = ap (occurs c.args.n) (apply-int (bound c.reserve_binding.new.self.state) _)

pub returns-clause-binds : goal.returns-clause-binds
returns-clause-binds c =
    subst (λ s. Binds s c.attach.new.self.state c.args.n (int c.args.value)) c.in_ok-reserve_binding.ensures.state
    (subst (Binds c.reserve_binding.new.self.state c.attach.new.self.state c.args.n) (apply-int (bound c.reserve_binding.new.self.state) _ ∙ ap int (to_z-of_z w64 c.args.value c.ranges.value)) c.attach.ensures.binds)
