use Rattle.goal_moves.proofs.ThrowLaws.{passes_branch, passes_clauses, passes_catch, passes_collect}
use Rattle.goal_moves.proofs.GatherLaws.{when_false}
use Rattle.goal_moves.proofs.raising.pass.Goals as goal

pub returns-in-Clauses : goal.returns-in-Clauses
returns-in-Clauses c = passes_clauses c.args.compiled.now c.args.path.now c.args.choice c.requires.well c.in-Clauses.clause c.in-Clauses.goal c.in-Clauses.is c.args.ball.now c.args.at

pub returns-in-Branch : goal.returns-in-Branch
returns-in-Branch c = passes_branch c.args.compiled.now c.args.path.now c.args.choice c.requires.well c.in-Branch.is c.args.ball.now c.args.at

pub returns-in-Collect : goal.returns-in-Collect
returns-in-Collect c =
    passes_collect c.args.compiled.now c.args.path.now c.args.choice c.requires.well c.leave.new.self c.in-Collect.list c.in-Collect.outer c.in-Collect.is c.leave.ensures.template c.leave.ensures.gathered c.leave.ensures.others
    c.after-f.result.0 c.after-f.result.1 c.after-f.ensures.items c.args.ball.now c.args.at

pub returns-else-active : goal.returns-else-active
returns-else-active c =
    passes_catch c.args.compiled.now c.args.path.now c.args.choice c.requires.well c.in-Catch.name c.in-Catch.catcher c.in-Catch.recovery c.in-Catch.is c.args.ball.now c.args.at c.outward-active.result.0 c.outward-active.ensures.leads
    (when_false _ _ c.outward-active.result.1 c.if-active.false c.outward-active.ensures.active)
