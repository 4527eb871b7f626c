use Rattle.std.proofs.Common.{◌∙◌, sym}
use Rattle.pl_unify.specs.State.{tree_at}
use Rattle.builtin_model.specs.Faults.{instantiation, fault_tree}
use Rattle.goal_state.specs.Denotation.{naming, state_of}
use Rattle.goal_moves.proofs.Committing.{IfOk-then}
use Rattle.goal_moves.proofs.ArgumentMoves.{name_at, arity_at}
use Rattle.goal_moves.proofs.ModuleNames.{var_ball, int_ball, name_ball, comp_ball}
use Rattle.goal_moves.proofs.term_control.ball_of.Goals as goal

pub returns-in_ok-ball-in-Var-clause-ball : goal.returns-in_ok-ball-in-Var-clause-ball
returns-in_ok-ball-in-Var-clause-ball c =
    let b = c.args.compiled.now in
    let p = c.args.path.now in
    c.in_ok-ball-in-Var.ensures.tree (naming b) c.requires.compiled.constructs
    ∙ (λ i. fault_tree (naming b) instantiation (c.construct_of-arity.ensures.name i) (c.construct_of-arity.ensures.arity i))
    ∙ var_ball (naming b) (tree_at (state_of p) c.args.term) c.in-Var.field-0 (name_at b p c.args.active) (arity_at b p c.args.active) (sym c.in-Var.is ∙ c.view.ensures)

pub returns-in-Int-clause-ball : goal.returns-in-Int-clause-ball
returns-in-Int-clause-ball c =
    let b = c.args.compiled.now in
    let p = c.args.path.now in
    IfOk-then c.same_ball.result c.same_ball.ensures.ball (λ at h. h ∙ int_ball (naming b) (tree_at (state_of p) c.args.term) c.in-Int.field-0 (name_at b p c.args.active) (arity_at b p c.args.active) (sym c.in-Int.is ∙ c.view.ensures))

pub returns-in-Name-clause-ball : goal.returns-in-Name-clause-ball
returns-in-Name-clause-ball c =
    let b = c.args.compiled.now in
    let p = c.args.path.now in
    IfOk-then c.same_ball-in-Name.result c.same_ball-in-Name.ensures.ball (λ at h. h ∙ name_ball (naming b) (tree_at (state_of p) c.args.term) c.in-Name.field-0 (name_at b p c.args.active) (arity_at b p c.args.active) (sym c.in-Name.is ∙ c.view.ensures))

pub returns-in-Comp-clause-ball : goal.returns-in-Comp-clause-ball
returns-in-Comp-clause-ball c =
    let b = c.args.compiled.now in
    let p = c.args.path.now in
    IfOk-then c.same_ball-in-Comp.result c.same_ball-in-Comp.ensures.ball (λ at h. h ∙ comp_ball (naming b) (tree_at (state_of p) c.args.term) c.in-Comp.field-0 c.in-Comp.field-1 (name_at b p c.args.active) (arity_at b p c.args.active) (sym c.in-Comp.is ∙ c.view.ensures))
