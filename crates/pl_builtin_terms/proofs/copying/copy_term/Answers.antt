use Rattle.pl_unify.specs.State.{tree_at}
use Rattle.builtin_model.specs.Deeds.{copy_deed}
use Rattle.pl_builtin_ends.proofs.Ends.{settled-as}
use Rattle.pl_builtin_terms.proofs.copying.copy_term.Goals as goal

pub returns-clause-done : goal.returns-clause-done
returns-clause-done c =
    settled-as c.mark-mark.result c.args.store.now.state c.unify_copy-ended.new.store.state c.settle.new.store.state
    (copy_deed (tree_at c.args.store.now.state c.args.term) (tree_at c.args.store.now.state c.args.copy) c.args.store.now.state.next)
    c.settle.result c.unify_copy-ended.result c.settle.ensures.same
    c.mark-mark.ensures.valid c.mark-mark.ensures.state c.unify_copy-ended.ensures.extends c.unify_copy-ended.ensures.done c.settle.ensures.kept c.settle.ensures.undone
