use Rattle.std.proofs.Common.{◌≡◌, ◌∙◌, ap, map, arith}
use Rattle.pl_terms.specs.Trees.{Tree, var}
use Rattle.pl_terms.specs.Occurrence.{variables}
use Rattle.pl_unify.specs.State.{State, tree_at}
use Rattle.pl_unify.proofs.Loading.{IfOk-map}
use Rattle.builtin_model.specs.Naming.{by_numbers}
use Rattle.builtin_model.specs.Lists.{list_tree}
use Rattle.pl_builtin_ends.proofs.Ends.{answers-made}
use Rattle.pl_builtin_terms.specs.Items.{list_from}
use Rattle.pl_builtin_terms.proofs.Lists.{list_from-tree}
use Rattle.pl_builtin_terms.proofs.variables.unify_variables.Goals as goal

pub returns-clause-done : goal.returns-clause-done
returns-clause-done c =
    let old : State = c.args.store.now.state in
    let t : Tree _ = list_tree (by_numbers c.list_names.new.names) (map var (variables (tree_at old c.args.term))) in
    let tree : tree_at c.list_of.new.store.state c.in_ok-made.made ≡ t =
    c.in_ok-made.ensures.tree
    ∙ (ap (list_from c.in_ok-symbols.symbols.nil.0 c.in_ok-symbols.symbols.dot.0) (ap (map (tree_at old)) c.deref.ensures.value ∙ c.in_ok-places.ensures.trees)
    ∙ list_from-tree c.list_names.new.names c.in_ok-symbols.symbols.nil.0 c.in_ok-symbols.symbols.dot.0 _ c.in_ok-symbols.ensures.nil c.in_ok-symbols.ensures.dot) in
    IfOk-map c.unify.result _ _
    (λ done h. answers-made old c.list_of.new.store.state c.unify.new.store.state c.args.list c.in_ok-made.made t 0 done c.list_of.ensures.grows (omega (arith, c.list_of.ensures.next)) c.requires.1 tree h)
    c.unify.ensures.done
