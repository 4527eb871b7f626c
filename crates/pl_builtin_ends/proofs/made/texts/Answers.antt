use Rattle.std.proofs.Common.{refl}
use Rattle.pl_builtin_ends.specs.Made.{made_texts}
use Rattle.pl_builtin_ends.proofs.made.texts.Goals as goal

pub returns : goal.returns
unfolding made_texts
returns c = refl
