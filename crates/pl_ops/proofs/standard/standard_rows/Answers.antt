use Rattle.std.proofs.Common.{refl}
use Rattle.pl_ops.specs.StandardRows.{operator_rows}
use Rattle.pl_ops.proofs.standard.standard_rows.Goals as goal

pub returns-clause-rows : goal.returns-clause-rows
unfolding operator_rows
returns-clause-rows c = refl
