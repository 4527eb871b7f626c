use Rattle.reading_laws.proofs.Runs.{StartIsPlace-holds}
use Rattle.reading_laws.proofs.laws.start_is_a_place.Goals as goal

pub returns : goal.returns
returns c = StartIsPlace-holds
