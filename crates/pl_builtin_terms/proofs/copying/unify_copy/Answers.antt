use Rattle.pl_terms.specs.Cells.{cells}
use Rattle.pl_terms.specs.Trees.{Tree}
use Rattle.std.proofs.Common.{◌≡◌, ◌∙◌, ◌+◌, ap, sym, subst, length, ℕ}
use Rattle.pl_terms.specs.Occurrence.{canon, variables}
use Rattle.unifier_model.specs.Substitution.{apply, raise}
use Rattle.pl_unify.specs.Load.{NewInOrder, next_after}
use Rattle.pl_unify.specs.State.{State, tree_at, bound}
use Rattle.pl_unify.proofs.Loading.{IfOk-map}
use Rattle.pl_builtin_ends.proofs.Ends.{answers-made}
use Rattle.pl_builtin_terms.proofs.Copies.{order-canon, next-canon}
use Rattle.pl_builtin_terms.proofs.New.{apply-raised}
use Rattle.pl_builtin_terms.proofs.copying.unify_copy.Goals as goal

pub load-requires : goal.load-requires
load-requires c =
    subst (λ n. NewInOrder n c.args.store.now.state.next (cells c.in_ok-numbered.numbered)) (sym c.next_var-next.ensures.next)
    (subst (λ t. NewInOrder c.args.store.now.state.next c.args.store.now.state.next (cells t)) (sym c.in_ok-numbered.ensures) (order-canon c.args.store.now.state.next c.in_ok-original.original))

pub returns-clause-done : goal.returns-clause-done
returns-clause-done c =
    let old : State = c.args.store.now.state in
    let t : Tree ℕ = tree_at old c.args.term in
    let canonical : c.in_ok-numbered.numbered ≡ canon t = c.in_ok-numbered.ensures ∙ ap canon c.in_ok-original.ensures in
    let tree : tree_at c.load.new.self.state c.in_ok-made.made ≡ raise old.next (canon t) =
    c.in_ok-made.ensures.tree
    ∙ (ap (λ n. apply (bound old) (raise n c.in_ok-numbered.numbered)) c.next_var-next.ensures.next
    ∙ (ap (λ u. apply (bound old) (raise old.next u)) canonical ∙ apply-raised old c.next_var-next.ensures.store (canon t))) in
    let next : c.load.new.self.state.next ≡ old.next + length (variables t) =
    c.in_ok-made.ensures.next
    ∙ (ap (λ n. next_after n old.next (cells c.in_ok-numbered.numbered)) c.next_var-next.ensures.next
    ∙ (ap (λ u. next_after old.next old.next (cells u)) canonical ∙ next-canon old.next t)) in
    IfOk-map c.unify.result _ _
    (λ done h. answers-made old c.load.new.self.state c.unify.new.store.state c.args.copy c.in_ok-made.made (raise old.next (canon t)) (length (variables t)) done c.in_ok-made.ensures.grows next c.requires.1 tree h)
    c.unify.ensures.done
