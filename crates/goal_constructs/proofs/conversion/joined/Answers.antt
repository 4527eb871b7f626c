use Rattle.std.proofs.Common.{◌≡◌, ◌∙◌, ℕ, sym, ap}
use Rattle.pl_terms.specs.Trees.{Tree, comp, cons, nil}
use Rattle.pl_unify.specs.Shape.{argument}
use Rattle.pl_unify.specs.State.{State, tree_at}
use Rattle.goal_code.proofs.Shaping.{binary_root}
use Rattle.goal_constructs.proofs.conversion.joined.Goals as goal

pub returns-then-old_right-right-clause-tree : goal.returns-then-old_right-right-clause-tree
returns-then-old_right-right-clause-tree c =
    let s : State = c.args.store.now.state in
    let t : Tree ℕ = tree_at s c.args.at in
    let l : argument t 0 ≡ tree_at s c.args.left = sym c.arg-old_left.ensures.tree ∙ ap (λ x. tree_at s (record { 0 = x })) c.if-old_left-left.true in
    let r : argument t 1 ≡ tree_at s c.args.right = sym c.arg-old_right.ensures.tree ∙ ap (λ x. tree_at s (record { 0 = x })) c.if-old_right-right.true in
    binary_root t c.args.name c.requires.root ∙ (ap (λ x. comp c.args.name.0 (cons x (cons (argument t 1) nil))) l ∙ ap (λ x. comp c.args.name.0 (cons (tree_at s c.args.left) (cons x nil))) r)
