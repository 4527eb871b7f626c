use Rattle.goal_moves.proofs.CatchLaws.{recovers_goal}
use Rattle.goal_moves.proofs.raising.recover.Goals as goal

pub returns-in_ok-enter_goals-in-Goal : goal.returns-in_ok-enter_goals-in-Goal
returns-in_ok-enter_goals-in-Goal c =
    recovers_goal c.args.compiled.now c.args.path.now c.enter_goals.new.path c.args.choice c.in-Goal.goal (record { f = c.after-f.result.0; pc = c.after-f.result.1 }) c.setting_of-setting.result c.args.called
    c.after-f.ensures.items c.setting_of-setting.ensures c.in_ok-enter_goals-in-Goal.ensures c.in-Goal.is
