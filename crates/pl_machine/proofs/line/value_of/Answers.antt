use Rattle.std.proofs.Common.{◌≡◌, IfOk, ◌∙◌, ap, subst, arith}
use Rattle.pl_terms.specs.Trees.{var}
use Rattle.unifier_model.specs.Substitution.{apply, raise}
use Rattle.pl_unify.specs.State.{bound, tree_at, tree_of_var}
use Rattle.pl_machine.proofs.line.value_of.Goals as goal

pub returns-clause-value : goal.returns-clause-value
returns-clause-value c =
    let s = c.args.store.now.state in
    let tree : tree_at c.load.new.self.state c.in_ok-at.at ≡ tree_of_var s c.args.number =
    c.in_ok-at.ensures.tree ∙ ap (λ t. apply (bound s) (raise 0 t)) c.in_ok-term.ensures ∙ ap (λ n. apply (bound s) (var n)) (omega arith) in
    subst (λ u. IfOk c.copy_out.result (λ t. t ≡ u)) tree c.copy_out.ensures
