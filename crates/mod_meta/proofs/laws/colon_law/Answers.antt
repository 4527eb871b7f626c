use Rattle.mod_meta.proofs.Colons.{colon-is}
use Rattle.mod_meta.proofs.laws.colon_law.Goals as goal

pub returns : goal.returns
returns c = colon-is
