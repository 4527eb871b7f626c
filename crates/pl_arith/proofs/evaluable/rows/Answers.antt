use Rattle.std.proofs.Common.{refl}
use Rattle.value_model.specs.Value.{evaluables}
use Rattle.pl_arith.proofs.evaluable.rows.Goals as goal

pub returns : goal.returns
unfolding evaluables
returns c = refl
