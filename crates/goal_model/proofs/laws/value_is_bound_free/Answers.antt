use Rattle.solver_model.proofs.SearchLaws.{search-found}
use Rattle.goal_model.specs.Table.{prolog}
use Rattle.goal_model.proofs.laws.value_is_bound_free.Goals as goal

pub returns : goal.returns
returns g c = λ n same p. search-found (prolog n same p)
