use Rattle.std.proofs.Common.{subst}
use Rattle.pl_unify.specs.State.{tree_at}
use Rattle.goal_model.specs.Bodies.{called as called_goal}
use Rattle.goal_constructs.specs.Goals.{called_term, more_arguments}
use Rattle.goal_constructs.specs.Calling.{IsCalled}
use Rattle.goal_state.specs.Denotation.{naming, state_of}
use Rattle.goal_moves.proofs.ArgumentMoves.{name_at}
use Rattle.goal_moves.proofs.term_control.taken_for_call.Goals as goal

pub returns-clause-goal : goal.returns-clause-goal
returns-clause-goal c =
    let b = c.args.compiled.now in
    let t = tree_at (state_of c.args.path.now) c.args.active.goal in
    subst (λ k. IsCalled c.called.new.store.state (called_goal (naming b) (called_term t) (more_arguments t) (name_at b c.args.path.now c.args.active) k) c.in_ok-taken.taken) c.construct_of-arity.ensures.arity
    (subst (λ f. IsCalled c.called.new.store.state (called_goal (naming b) (called_term t) (more_arguments t) f c.construct_of-arity.result.1) c.in_ok-taken.taken) c.construct_of-arity.ensures.name
    (c.in_ok-taken.ensures.goal (naming b) c.requires.compiled.constructs))
