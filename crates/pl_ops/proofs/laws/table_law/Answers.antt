use Rattle.pl_ops.proofs.Lookups.{operator-last}
use Rattle.pl_ops.proofs.laws.table_law.Goals as goal

pub returns : goal.returns
returns c = operator-last
