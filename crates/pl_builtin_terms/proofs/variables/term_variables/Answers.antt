use Rattle.std.proofs.Common.{map}
use Rattle.pl_terms.specs.Trees.{var}
use Rattle.pl_terms.specs.Occurrence.{variables}
use Rattle.pl_unify.specs.State.{tree_at}
use Rattle.builtin_model.specs.Naming.{by_numbers}
use Rattle.builtin_model.specs.Lists.{list_tree}
use Rattle.builtin_model.specs.Deeds.{unify}
use Rattle.pl_builtin_ends.proofs.Ends.{settled-as}
use Rattle.pl_builtin_terms.proofs.variables.term_variables.Goals as goal

pub returns-clause-done : goal.returns-clause-done
returns-clause-done c =
    settled-as c.mark-mark.result c.args.store.now.state c.unify_variables-ended.new.store.state c.settle.new.store.state
    (unify (tree_at c.args.store.now.state c.args.list) (list_tree (by_numbers c.unify_variables-ended.new.names) (map var (variables (tree_at c.args.store.now.state c.args.term)))))
    c.settle.result c.unify_variables-ended.result c.settle.ensures.same
    c.mark-mark.ensures.valid c.mark-mark.ensures.state c.unify_variables-ended.ensures.extends c.unify_variables-ended.ensures.done c.settle.ensures.kept c.settle.ensures.undone
