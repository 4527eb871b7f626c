use Rattle.pl_unify.specs.State.{tree_at}
use Rattle.builtin_model.specs.Deeds.{functor_deed}
use Rattle.pl_builtin_ends.proofs.Ends.{settled-as}
use Rattle.pl_builtin_terms.proofs.functor_row.functor.Goals as goal

pub returns-clause-done : goal.returns-clause-done
returns-clause-done c =
    settled-as c.mark-mark.result c.args.store.now.state c.unify_functor-ended.new.store.state c.settle.new.store.state
    (functor_deed (tree_at c.args.store.now.state c.args.term) (tree_at c.args.store.now.state c.args.name) (tree_at c.args.store.now.state c.args.count) c.args.store.now.state.next)
    c.settle.result c.unify_functor-ended.result c.settle.ensures.same
    c.mark-mark.ensures.valid c.mark-mark.ensures.state c.unify_functor-ended.ensures.extends c.unify_functor-ended.ensures.done c.settle.ensures.kept c.settle.ensures.undone
