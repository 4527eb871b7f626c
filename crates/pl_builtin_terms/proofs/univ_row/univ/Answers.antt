use Rattle.pl_unify.specs.State.{tree_at}
use Rattle.builtin_model.specs.Naming.{by_numbers}
use Rattle.builtin_model.specs.Deeds.{univ_deed}
use Rattle.pl_builtin_ends.proofs.Ends.{settled-as}
use Rattle.pl_builtin_terms.proofs.univ_row.univ.Goals as goal

pub returns-clause-done : goal.returns-clause-done
returns-clause-done c =
    settled-as c.mark-mark.result c.args.store.now.state c.unify_parts-ended.new.store.state c.settle.new.store.state
    (univ_deed (by_numbers c.unify_parts-ended.new.names) (tree_at c.args.store.now.state c.args.term) (tree_at c.args.store.now.state c.args.list))
    c.settle.result c.unify_parts-ended.result c.settle.ensures.same
    c.mark-mark.ensures.valid c.mark-mark.ensures.state c.unify_parts-ended.ensures.extends c.unify_parts-ended.ensures.done c.settle.ensures.kept c.settle.ensures.undone
