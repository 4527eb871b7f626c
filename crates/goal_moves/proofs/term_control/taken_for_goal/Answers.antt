use Rattle.goal_state.specs.Denotation.{naming, state_of}
use Rattle.pl_unify.specs.State.{tree_at}
use Rattle.goal_moves.proofs.ArgumentMoves.{called_by, name_at, arity_at}
use Rattle.goal_moves.proofs.term_control.taken_for_goal.Goals as goal

pub returns-clause-goal : goal.returns-clause-goal
returns-clause-goal c =
    let b = c.args.compiled.now in
    called_by b c.goal_of.new.store.state (tree_at (state_of c.args.path.now) c.args.term) c.construct_of-arity.result.0.0 (name_at b c.args.path.now c.args.active) c.construct_of-arity.result.1 (arity_at b c.args.path.now c.args.active) c.in_ok-called.called
    c.construct_of-arity.ensures.name c.construct_of-arity.ensures.arity (c.in_ok-called.ensures.goal (naming b) c.requires.compiled.constructs)
