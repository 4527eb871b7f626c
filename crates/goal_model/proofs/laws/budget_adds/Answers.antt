use Rattle.solver_model.proofs.BudgetLaws.{found-longer}
use Rattle.goal_model.specs.Table.{prolog}
use Rattle.goal_model.proofs.laws.budget_adds.Goals as goal

pub returns : goal.returns
returns g c = λ n same p. found-longer (prolog n same p)
