use Rattle.std.proofs.Common.{ap, [], get_or}
use Rattle.pl_atoms.proofs.Numbers.{number-is}
use Rattle.pl_atoms.proofs.laws.names_law.Goals as goal

pub returns : goal.returns
returns c texts distinct m n hm hn = (ap (λ k. get_or texts k []), number-is texts distinct m n hm hn)
