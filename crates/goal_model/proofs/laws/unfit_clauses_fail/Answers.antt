use Rattle.goal_model.proofs.ChoiceProofs.{unfit_fail}
use Rattle.goal_model.proofs.laws.unfit_clauses_fail.Goals as goal

pub returns : goal.returns
returns c = unfit_fail
