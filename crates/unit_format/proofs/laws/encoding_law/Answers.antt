use Rattle.unit_format.proofs.Places.{by_places}
use Rattle.unit_format.proofs.laws.encoding_law.Goals as goal

pub returns : goal.returns
returns c = by_places
