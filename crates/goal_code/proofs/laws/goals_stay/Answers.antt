use Rattle.goal_code.proofs.SettledLaws.{goals_stay}
use Rattle.goal_code.proofs.laws.goals_stay.Goals as goal

pub returns : goal.returns
returns c = goals_stay
