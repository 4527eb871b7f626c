use Rattle.std.proofs.Common.{refl}
use Rattle.pl_machine.proofs.compiled.written.Goals as goal

pub returns : goal.returns
returns c = refl
