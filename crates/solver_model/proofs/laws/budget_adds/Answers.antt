use Rattle.solver_model.specs.Tables.{language}
use Rattle.solver_model.proofs.BudgetLaws.{found-longer}
use Rattle.solver_model.proofs.laws.budget_adds.Goals as goal

pub returns : goal.returns
returns g c = λ t. found-longer (language t)
