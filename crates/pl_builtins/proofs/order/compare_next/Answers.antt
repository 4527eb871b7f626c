use Rattle.std.proofs.Common.{◌≡◌, ◌∙◌, ap, rules}
use Rattle.std.specs.declared.cmp.Ordering.TheVariants.{Equal}
use Rattle.pl_unify.specs.State.{tree_at}
use Rattle.pl_unify.specs.Shape.{root}
use Rattle.pl_builtins.specs.Ordered.{root_cmp}
use Rattle.pl_builtins.proofs.Ordering.{compared-equal}
use Rattle.pl_builtins.proofs.order.compare_next.Goals as goal

pub returns-in_ok-push_arguments : goal.returns-in_ok-push_arguments
returns-in_ok-push_arguments c =
    let z : c.compare_roots-found.result ≡ Equal = search rules in
    compared-equal c.args.store.now.state c.args.names.now c.args.left c.args.right _ _ c.compare_roots-found.result
    (c.compare_roots-found.ensures ∙ (ap (λ v. root_cmp c.args.names.now v c.view.result) c.view-root.ensures ∙ ap (root_cmp c.args.names.now (root (tree_at c.args.store.now.state c.args.left))) c.view.ensures))
    z c.in_ok-push_arguments.ensures
