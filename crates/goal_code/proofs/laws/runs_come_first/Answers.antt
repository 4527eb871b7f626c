use Rattle.goal_code.proofs.ContinuationLaws.{runs_come_first}
use Rattle.goal_code.proofs.laws.runs_come_first.Goals as goal

pub returns : goal.returns
returns c = runs_come_first
