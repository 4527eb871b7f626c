use Rattle.preparing_laws.proofs.Steps.{step-sound}
use Rattle.preparing_laws.proofs.step_sound.Goals as goal

pub returns : goal.returns
returns c = step-sound
