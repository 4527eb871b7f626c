use Rattle.preparing_laws.proofs.Steps.{start-sound}
use Rattle.preparing_laws.proofs.starts_sound.Goals as goal

pub returns : goal.returns
returns c = start-sound
