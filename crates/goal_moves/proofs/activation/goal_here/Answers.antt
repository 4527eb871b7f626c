use Rattle.goal_state.specs.Denotation.{bodies, state_of}
use Rattle.goal_moves.proofs.CodeMoves.{clause_there, goal_there, code_base, goal_placed}
use Rattle.goal_moves.proofs.activation.goal_here.Goals as goal

pub build_goal-requires-clause-clause : goal.build_goal-requires-clause-clause
build_goal-requires-clause-clause c = clause_there c.args.compiled.now c.args.path.now c.args.instruction c.args.setting c.requires.code

pub build_goal-requires-clause-place : goal.build_goal-requires-clause-place
build_goal-requires-clause-place c = goal_there c.args.compiled.now c.args.path.now c.args.instruction c.args.setting c.requires.code c.requires.compiled

pub build_goal-requires-clause-base : goal.build_goal-requires-clause-base
build_goal-requires-clause-base c = code_base c.args.compiled.now c.args.path.now c.args.instruction c.args.setting c.requires.code c.args.node c.requires.well

pub returns-clause-here : goal.returns-clause-here
returns-clause-here c =
    let b = c.args.compiled.now in
    let p = c.args.path.now in
    goal_placed b p c.args.instruction c.args.setting c.requires.code c.build_goal.new.path c.args.node c.in_ok-goal.goal c.after-f.result.0 c.after-f.result.1 c.next_of.result c.requires.compiled c.get-frame.ensures.linked c.requires.well c.requires.depth
    c.in_ok-goal.ensures.grew c.in_ok-goal.ensures.place c.in_ok-goal.ensures.tree c.next_of.ensures (c.after-f.ensures.items (bodies b) (state_of p)) c.after-f.ensures.within
