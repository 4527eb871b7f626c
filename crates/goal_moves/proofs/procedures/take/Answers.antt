use Rattle.goal_moves.proofs.TryLaws.{take_enters}
use Rattle.goal_moves.proofs.procedures.take.Goals as goal

pub returns : goal.returns
returns c = take_enters c.args.compiled.now c.args.path.now c.enter_body.new.path c.args.attempt.now c.args.clause.0 c.args.base c.start-start.result c.get.result.now c.enter_body.result c.get.ensures c.start-start.ensures c.enter_body.ensures
