use Rattle.pl_store.proofs.WalkLaws.{visible-there}
use Rattle.pl_store.proofs.laws.visible_there.Goals as goal

pub returns : goal.returns
returns c = visible-there
