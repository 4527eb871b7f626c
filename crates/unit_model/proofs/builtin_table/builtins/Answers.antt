use Rattle.std.proofs.Common.{refl}
use Rattle.unit_model.specs.Builtins.{builtins}
use Rattle.unit_model.proofs.builtin_table.builtins.Goals as goal

pub returns-clause-rows : goal.returns-clause-rows
unfolding builtins
returns-clause-rows c = refl
