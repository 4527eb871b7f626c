use Rattle.pl_atoms.proofs.Numbers.{remapped-texts, remapped-numbers}
use Rattle.pl_atoms.proofs.laws.remap_law.Goals as goal

pub returns : goal.returns
returns c first second into ms ns distinct one two m n hm hn =
    (remapped-texts first second into ms ns distinct one two m n hm hn, remapped-numbers first second into ms ns distinct one two m n hm hn)
