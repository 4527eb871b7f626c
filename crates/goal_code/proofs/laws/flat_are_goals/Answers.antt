use Rattle.goal_code.proofs.DenotationLaws.{flat_are_goals}
use Rattle.goal_code.proofs.laws.flat_are_goals.Goals as goal

pub returns : goal.returns
returns c = flat_are_goals
