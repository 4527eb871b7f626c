use Rattle.std.proofs.Common.{◌≡◌, ◌∙◌, [], ◌∷◌, subst, arith, ℕ, List}
use Rattle.pl_terms.specs.Trees.{Tree, atom}
use Rattle.pl_unify.specs.State.{State, tree_at}
use Rattle.pl_unify.proofs.Loading.{IfOk-map}
use Rattle.builtin_model.specs.Naming.{by_numbers}
use Rattle.builtin_model.specs.Lists.{list_tree, listed}
use Rattle.pl_builtin_ends.specs.Meets.{Answers}
use Rattle.pl_builtin_ends.proofs.Ends.{answers-made}
use Rattle.pl_builtin_terms.specs.Walk.{arguments_of}
use Rattle.pl_builtin_terms.proofs.Lists.{list_from-tree}
use Rattle.pl_builtin_terms.proofs.Parts.{univ-comp, univ-other}
use Rattle.pl_builtin_terms.proofs.univ_row.unify_parts.Goals as goal

pub returns-in_ok-parts-in-Comp-clause-done : goal.returns-in_ok-parts-in-Comp-clause-done
returns-in_ok-parts-in-Comp-clause-done c =
    let old : State = c.args.store.now.state in
    let names : List (List ℕ) = c.list_names.new.names in
    let items : List (Tree ℕ) = atom c.in-Comp.name.0 ∷ listed (arguments_of (tree_at old c.args.term)) in
    let tree : tree_at c.parts_of.new.store.state c.in_ok-parts-in-Comp.parts ≡ list_tree (by_numbers names) items =
    c.in_ok-parts-in-Comp.ensures.tree ∙ list_from-tree names c.in_ok-symbols-in-Comp.symbols.nil.0 c.in_ok-symbols-in-Comp.symbols.dot.0 items c.in_ok-symbols-in-Comp.ensures.nil c.in_ok-symbols-in-Comp.ensures.dot in
    IfOk-map c.unify.result _ _
    (λ done h. subst (λ d. Answers old c.unify.new.store.state d done) (univ-comp (by_numbers names) (tree_at old c.args.term) (tree_at old c.args.list) c.in-Comp.name c.in-Comp.arity c.in-Comp.ensures)
    (answers-made old c.parts_of.new.store.state c.unify.new.store.state c.args.list c.in_ok-parts-in-Comp.parts (list_tree (by_numbers names) items) 0 done c.parts_of.ensures.grows (omega (arith, c.parts_of.ensures.next)) c.requires.places.1 tree h))
    c.unify.ensures.done

pub returns-in_ok-parts-in_default-clause-done : goal.returns-in_ok-parts-in_default-clause-done
returns-in_ok-parts-in_default-clause-done c =
    let old : State = c.args.store.now.state in
    let names : List (List ℕ) = c.list_names-in_default.new.names in
    let items : List (Tree ℕ) = tree_at old c.args.term ∷ [] in
    let tree : tree_at c.list_of.new.store.state c.in_ok-parts-in_default.parts ≡ list_tree (by_numbers names) items =
    c.in_ok-parts-in_default.ensures.tree
    ∙ list_from-tree names c.in_ok-symbols-in_default.symbols.nil.0 c.in_ok-symbols-in_default.symbols.dot.0 items c.in_ok-symbols-in_default.ensures.nil c.in_ok-symbols-in_default.ensures.dot in
    IfOk-map c.unify-in_default.result _ _
    (λ done h. subst (λ d. Answers old c.unify-in_default.new.store.state d done)
    (univ-other (by_numbers names) (tree_at old c.args.term) (tree_at old c.args.list) (λ n e. c.in_default.not-Var n (c.view.ensures ∙ e)) (λ f n e. c.in_default.not-Comp f n (c.view.ensures ∙ e)))
    (answers-made old c.list_of.new.store.state c.unify-in_default.new.store.state c.args.list c.in_ok-parts-in_default.parts (list_tree (by_numbers names) items) 0 done c.list_of.ensures.grows
    (omega (arith, c.list_of.ensures.next)) c.requires.places.1 tree h))
    c.unify-in_default.ensures.done
