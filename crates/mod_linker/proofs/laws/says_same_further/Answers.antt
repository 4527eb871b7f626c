use Rattle.mod_linker.proofs.Further.{says-same-further}
use Rattle.mod_linker.proofs.laws.says_same_further.Goals as goal

pub returns : goal.returns
returns c = says-same-further
