use Rattle.pl_atoms.proofs.Numbers.{Remaps-front}
use Rattle.pl_atoms.proofs.laws.remap_front_law.Goals as goal

pub returns : goal.returns
returns c = Remaps-front
