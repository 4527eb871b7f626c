use Rattle.goal_code.proofs.SettledLaws.{rows_stay}
use Rattle.goal_code.proofs.laws.rows_stay.Goals as goal

pub returns : goal.returns
returns c = rows_stay
