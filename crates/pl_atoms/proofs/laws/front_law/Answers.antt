use Rattle.pl_atoms.proofs.Numbers.{get_or-front}
use Rattle.pl_atoms.proofs.laws.front_law.Goals as goal

pub returns : goal.returns
returns c = get_or-front
