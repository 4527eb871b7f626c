use Rattle.goal_moves.proofs.EnterLaws.{entered_part}
use Rattle.goal_moves.proofs.enter.enter_part.Goals as goal

pub returns : goal.returns
returns c = λ b. entered_part b c.args.path.now c.put.new.self c.args.part c.args.setting c.args.rest.f c.args.rest.pc c.in_ok-f.f c.in_ok-f.ensures.put c.requires.part c.requires.base
