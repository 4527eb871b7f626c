use Rattle.goal_code.proofs.DenotationLaws.{items_are_goals}
use Rattle.goal_code.proofs.laws.items_are_goals.Goals as goal

pub returns : goal.returns
returns c = items_are_goals
