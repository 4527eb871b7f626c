use Rattle.std.proofs.Common.{◌∙◌, ap, sym, subst}
use Rattle.pl_terms.specs.Cells.{cells}
use Rattle.pl_terms.specs.Occurrence.{canon}
use Rattle.unifier_model.specs.Substitution.{apply, raise}
use Rattle.pl_unify.specs.Load.{NewInOrder, next_after}
use Rattle.pl_unify.specs.State.{State, bound}
use Rattle.pl_builtin_terms.proofs.Copies.{order-canon, next-canon}
use Rattle.pl_builtin_terms.proofs.New.{apply-raised}
use Rattle.goal_moves.proofs.RetryLaws.{IfOk-then, OnOk-then}
use Rattle.goal_moves.proofs.collecting.copy_of.Goals as goal

pub load-requires : goal.load-requires
load-requires c =
    subst (λ n. NewInOrder n c.args.store.now.state.next (cells c.in_ok-numbered.numbered)) (sym c.next_var-next.ensures.next)
    (subst (λ t. NewInOrder c.args.store.now.state.next c.args.store.now.state.next (cells t)) (sym c.in_ok-numbered.ensures) (order-canon c.args.store.now.state.next c.args.term.now))

pub returns-clause-tree : goal.returns-clause-tree
returns-clause-tree c =
    let old : State = c.args.store.now.state in
    IfOk-then c.load.result c.load.ensures.tree (λ at h.
    h
    ∙ (ap (λ n. apply (bound old) (raise n c.in_ok-numbered.numbered)) c.next_var-next.ensures.next
    ∙ (ap (λ u. apply (bound old) (raise old.next u)) c.in_ok-numbered.ensures ∙ apply-raised old c.next_var-next.ensures.store (canon c.args.term.now))))

pub returns-clause-next : goal.returns-clause-next
returns-clause-next c =
    let old : State = c.args.store.now.state in
    OnOk-then c.load.result c.load.ensures.next (λ h.
    h
    ∙ (ap (λ n. next_after n old.next (cells c.in_ok-numbered.numbered)) c.next_var-next.ensures.next
    ∙ (ap (λ u. next_after old.next old.next (cells u)) c.in_ok-numbered.ensures ∙ next-canon old.next c.args.term.now)))
