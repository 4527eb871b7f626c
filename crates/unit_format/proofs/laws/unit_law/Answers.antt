use Rattle.unit_format.proofs.Decodes.{one_unit}
use Rattle.unit_format.proofs.laws.unit_law.Goals as goal

pub returns : goal.returns
returns c = one_unit
