use Rattle.std.proofs.Common.{◌≡◌, ◌∙◌, subst, arith, rules, pos, ℕ}
use Rattle.pl_terms.specs.Trees.{Tree, atom, int}
use Rattle.pl_unify.specs.State.{State, tree_at, Grows}
use Rattle.pl_unify.proofs.Loading.{IfOk-map, Grows-trans}
use Rattle.pl_builtin_ends.specs.Meets.{Answers}
use Rattle.pl_builtin_ends.proofs.Ends.{answers-grown}
use Rattle.pl_builtin_terms.proofs.Parts.{functor-comp, two-equal}
use Rattle.pl_builtin_terms.proofs.functor_row.unify_functor.Goals as goal

pub returns-in_ok-arity-in-Comp-clause-done : goal.returns-in_ok-arity-in-Comp-clause-done
returns-in_ok-arity-in-Comp-clause-done c =
    let old : State = c.args.store.now.state in
    let one : State = c.place_of_name.new.self.state in
    let two : State = c.place_of_int.new.self.state in
    let name : Tree ℕ = tree_at old c.args.name in
    let count : Tree ℕ = tree_at old c.args.count in
    let g : Grows old two = Grows-trans old one two c.place_of_name.ensures.grows c.place_of_int.ensures.grows in
    let found : tree_at two c.in_ok-found-in-Comp.found ≡ atom c.in-Comp.found.0 = c.place_of_int.ensures.grows.places c.in_ok-found-in-Comp.found c.in_ok-found-in-Comp.ensures.place ∙ c.in_ok-found-in-Comp.ensures.tree in
    let arity : tree_at two c.in_ok-arity-in-Comp.arity ≡ int (pos c.in-Comp.arity) = search rules in
    let equations = two-equal (tree_at two c.args.name) (tree_at two c.in_ok-found-in-Comp.found) (tree_at two c.args.count) (tree_at two c.in_ok-arity-in-Comp.arity) name (atom c.in-Comp.found.0) count (int (pos c.in-Comp.arity))
    (g.places c.args.name c.requires.1) found (g.places c.args.count c.requires.2) arity in
    IfOk-map c.unify_two.result _ _
    (λ done h. subst (λ d. Answers old c.unify_two.new.store.state d done) (functor-comp (tree_at old c.args.term) name count old.next c.in-Comp.found c.in-Comp.arity c.in-Comp.ensures)
    (answers-grown old two c.unify_two.new.store.state _ _ 0 done g (omega (arith, c.place_of_name.ensures.next, c.place_of_int.ensures.next)) equations h))
    c.unify_two.ensures.done
