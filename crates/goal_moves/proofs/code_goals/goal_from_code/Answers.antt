use Rattle.goal_moves.proofs.Committing.{IfOk-then}
use Rattle.goal_moves.proofs.CodeMoves.{activated_here, leaves_here}
use Rattle.goal_moves.proofs.TargetLaws.{targets_there, goal_target}
use Rattle.goal_moves.proofs.code_goals.goal_from_code.Goals as goal

pub home-home-requires : goal.home-home-requires
home-home-requires c = targets_there c.args.compiled.now c.args.path.now c.args.instruction c.args.setting c.requires.code c.requires.compiled

pub run_target-requires-clause-ready : goal.run_target-requires-clause-ready
run_target-requires-clause-ready c = c.in_ok-active.ensures.here.ready

pub run_target-requires-clause-target : goal.run_target-requires-clause-target
run_target-requires-clause-target c =
    goal_target c.args.compiled.now c.args.path.now c.args.instruction c.args.setting c.requires.code c.requires.compiled c.goal_here.new.path c.in_ok-active.active c.get-target.result c.home-home.result.0
    c.requires.plain c.get-target.ensures c.home-home.ensures c.in_ok-active.ensures.tree

pub returns-clause-activated : goal.returns-clause-activated
returns-clause-activated c =
    IfOk-then c.run_target.result c.run_target.ensures.activated (λ g m. activated_here c.args.compiled.now c.args.path.now c.goal_here.new.path c.run_target.new.path c.args.node c.in_ok-active.active c.args.text.now c.run_target.new.text g c.in_ok-active.ensures.here m)

pub returns-in-Some-clause-activated : goal.returns-in-Some-clause-activated
returns-in-Some-clause-activated c = IfOk-then c.do_value_goal.result c.do_value_goal.ensures.activated (λ g m. m c.args.text.now)

pub returns-clause-untried : goal.returns-clause-untried
returns-clause-untried c =
    IfOk-then c.run_target.result c.run_target.ensures.untried (λ g m. leaves_here c.args.compiled.now c.args.path.now c.goal_here.new.path c.run_target.new.path c.args.node c.in_ok-active.active c.in_ok-active.ensures.here m)
