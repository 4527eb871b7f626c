use Rattle.std.proofs.Common.{◌∙◌, ◌≤◌, ℕ, sym, ap, subst, arith}
use Rattle.pl_terms.specs.Trees.{Tree, count}
use Rattle.pl_unify.specs.State.{State, tree_at}
use Rattle.pl_unify.proofs.Loading.{IfOk-map}
use Rattle.goal_model.specs.Bodies.{added, goal_with}
use Rattle.goal_constructs.specs.Goals.{arguments_of, more_arguments}
use Rattle.goal_constructs.specs.Calling.{IsCalled}
use Rattle.goal_constructs.proofs.CallingLaws.{called-more}
use Rattle.goal_constructs.proofs.constructs.Constructs.called.Goals as goal

pub returns-in-Goal-clause-goal : goal.returns-in-Goal-clause-goal
returns-in-Goal-clause-goal c =
    let s : State = c.args.store.now.state in
    let g : Tree ℕ = tree_at s c.args.goal in
    let f : ℕ = c.args.name.0 in
    let k : ℕ = c.args.arity in
    let two : 2 ≤ count (arguments_of g) = omega (arith, c.arity_of-count.ensures.count, c.if-count-eq0.false, c.if-count-eq1.false) in
    let made = rw c.in-Goal.is at c.in_ok-made.ensures.added in
    IfOk-map c.goal_of-in-Goal.result _ _
    (λ r h n are. subst (λ x. IsCalled c.goal_of-in-Goal.new.store.state x r)
    (sym (called-more n g f k two ∙ ap (λ x. goal_with n x f k) (ap (λ t. added n t (more_arguments g) t f k) (sym c.arg-term.ensures.tree) ∙ (made n are).1)))
    (h n are))
    c.goal_of-in-Goal.ensures.goal

pub returns-in-Ball-clause-goal : goal.returns-in-Ball-clause-goal
returns-in-Ball-clause-goal c = λ n are.
    let s : State = c.args.store.now.state in
    let g : Tree ℕ = tree_at s c.args.goal in
    let f : ℕ = c.args.name.0 in
    let k : ℕ = c.args.arity in
    let two : 2 ≤ count (arguments_of g) = omega (arith, c.arity_of-count.ensures.count, c.if-count-eq0.false, c.if-count-eq1.false) in
    let made = (rw c.in-Ball.is at c.in_ok-made.ensures.added) n are in
    (made.0, called-more n g f k two ∙ ap (λ x. goal_with n x f k) (ap (λ t. added n t (more_arguments g) t f k) (sym c.arg-term.ensures.tree) ∙ made.1))
