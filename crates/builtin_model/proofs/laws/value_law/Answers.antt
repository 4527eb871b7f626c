use Rattle.builtin_model.proofs.ValueLaw.{value-numbers}
use Rattle.builtin_model.proofs.laws.value_law.Goals as goal

pub returns : goal.returns
returns c = value-numbers
