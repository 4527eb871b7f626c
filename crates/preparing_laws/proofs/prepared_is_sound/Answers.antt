use Rattle.preparing_laws.proofs.Ends.{prepared-sound}
use Rattle.preparing_laws.proofs.prepared_is_sound.Goals as goal

pub returns : goal.returns
returns c = prepared-sound
