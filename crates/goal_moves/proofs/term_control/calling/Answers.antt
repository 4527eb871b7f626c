use Rattle.goal_moves.proofs.Committing.{IfOk-then}
use Rattle.goal_moves.proofs.TakenMoves.{grown_ready, moved_grown}
use Rattle.goal_moves.proofs.ArgumentMoves.{calling_runs}
use Rattle.goal_moves.proofs.UntriedRows.{leaves_grown}
use Rattle.goal_moves.proofs.term_control.calling.Goals as goal

pub run_taken-requires-clause-ready : goal.run_taken-requires-clause-ready
run_taken-requires-clause-ready c = grown_ready c.args.compiled.now c.args.path.now c.taken_for_call.new.path c.args.active c.requires.ready c.in_ok-taken.ensures.grew

pub run_taken-requires-clause-runs : goal.run_taken-requires-clause-runs
run_taken-requires-clause-runs c =
    calling_runs c.args.compiled.now c.args.path.now c.taken_for_call.new.path c.args.active c.requires.ready c.in_ok-taken.ensures.grew c.in_ok-taken.taken c.args.path.now.depth c.argument_setting-setting.result c.requires.ready.depth c.argument_setting-setting.ensures c.requires.row c.in_ok-taken.ensures.goal

pub returns-clause-moved : goal.returns-clause-moved
returns-clause-moved c =
    IfOk-then c.run_taken.result c.run_taken.ensures.moved (λ g m. moved_grown c.args.compiled.now c.args.path.now c.taken_for_call.new.path c.args.active c.requires.ready c.in_ok-taken.ensures.grew c.run_taken.new.path g m)

pub returns-clause-untried : goal.returns-clause-untried
returns-clause-untried c =
    IfOk-then c.run_taken.result c.run_taken.ensures.untried (λ g h. leaves_grown c.args.compiled.now c.args.path.now c.taken_for_call.new.path c.args.active c.requires.ready c.in_ok-taken.ensures.grew c.run_taken.new.path h)
