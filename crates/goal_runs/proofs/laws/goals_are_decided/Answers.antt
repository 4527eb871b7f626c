use Rattle.goal_runs.proofs.Decided.{GoalsAreDecided-holds}
use Rattle.goal_runs.proofs.laws.goals_are_decided.Goals as goal

pub returns : goal.returns
returns c = GoalsAreDecided-holds
