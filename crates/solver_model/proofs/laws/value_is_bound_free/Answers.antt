use Rattle.solver_model.specs.Tables.{language}
use Rattle.solver_model.proofs.SearchLaws.{search-found}
use Rattle.solver_model.proofs.laws.value_is_bound_free.Goals as goal

pub returns : goal.returns
returns g c = λ t. search-found (language t)
