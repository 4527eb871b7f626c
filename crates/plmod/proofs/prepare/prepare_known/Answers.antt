use Rattle.plmod.proofs.FetchedLaws.{same_length}
use Rattle.plmod.proofs.prepare.prepare_known.Goals as goal

pub made_of-requires-clause-each : goal.made_of-requires-clause-each
made_of-requires-clause-each g c = rw c.as_slice.ensures (same_length _ _ _ c.in-Ok.ensures.found)
