use Rattle.pl_builtin_ends.proofs.Kept.{HasNames-front}
use Rattle.pl_builtin_ends.proofs.made.names_law.Goals as goal

pub returns : goal.returns
returns c = HasNames-front
