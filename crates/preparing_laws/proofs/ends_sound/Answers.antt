use Rattle.preparing_laws.proofs.Ends.{ends-sound}
use Rattle.preparing_laws.proofs.ends_sound.Goals as goal

pub returns : goal.returns
returns c = ends-sound
