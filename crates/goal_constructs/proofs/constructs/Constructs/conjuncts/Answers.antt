use Rattle.std.proofs.Common.{List, ◌≡◌, ◌∙◌, ◌∷◌, [], ap, subst, reverse, length, arith, ℕ}
use Rattle.pl_terms.specs.Trees.{Tree}
use Rattle.pl_unify.specs.State.{tree_at}
use Rattle.goal_code.specs.Shapes.{conjuncts}
use Rattle.goal_constructs.specs.Conjuncts.{UnderWay}
use Rattle.goal_constructs.proofs.ConjunctLaws.{reverse-push, empty-list, under-next, under-end}
use Rattle.goal_constructs.proofs.constructs.Constructs.conjuncts.Goals as goal

pub returns-in_default-pop : goal.returns-in_default-pop
returns-in_default-pop c =
    let ts : List (Tree ℕ) = conjuncts c.args.self.now.names.control (tree_at c.args.store.now.state c.args.term) in
    let few : length c.goals.stack.items ≡ 0 = omega (arith, c.goals.stack.ok.0, c.in_default-pop.ensures.cases.0) in
    let none : reverse c.goals.stack.items ≡ [] = ap reverse (empty-list c.goals.stack.items few) in
    under-end c.args.self.now.names.control c.args.store.now.state c.args.out.now.items ts c.goals.out.items c.push-in-goals.new.list.items c.goals.at
    (subst (λ st. UnderWay c.args.self.now.names.control c.args.store.now.state c.args.out.now.items c.goals.out.items c.goals.at st ts) none c.goals.invariant)
    c.in_default.ensures c.in_ok-push-2.ensures.ok

pub goals-preserved : goal.goals-preserved
goals-preserved c =
    let ts : List (Tree ℕ) = conjuncts c.args.self.now.names.control (tree_at c.args.store.now.state c.args.term) in
    let stack : reverse c.goals.stack.items ≡ c.in-Some-pop.next ∷ reverse c.pop.new.self.items = ap reverse c.in-Some-pop.ensures.items ∙ reverse-push c.pop.new.self.items c.in-Some-pop.next in
    under-next c.args.self.now.names.control c.args.store.now.state c.args.out.now.items ts c.goals.out.items c.push-in-goals.new.list.items c.goals.at c.in-Some-pop.next (reverse c.pop.new.self.items)
    (subst (λ st. UnderWay c.args.self.now.names.control c.args.store.now.state c.args.out.now.items c.goals.out.items c.goals.at st ts) stack c.goals.invariant)
    c.in_default.ensures c.in_ok-push-2.ensures.ok
