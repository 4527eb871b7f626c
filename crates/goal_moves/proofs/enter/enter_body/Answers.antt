use Rattle.goal_moves.proofs.EnterLaws.{entered_body}
use Rattle.goal_moves.proofs.enter.enter_body.Goals as goal

pub returns : goal.returns
returns c = λ b. entered_body b c.args.path.now c.put.new.self c.args.setting c.args.rest.f c.args.rest.pc c.in_ok-path.field-0 c.args.start c.in_ok-path.ensures.put c.requires.base
