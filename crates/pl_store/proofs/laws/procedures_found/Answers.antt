use Rattle.pl_store.proofs.WalkLaws.{procedures-found}
use Rattle.pl_store.proofs.laws.procedures_found.Goals as goal

pub returns : goal.returns
returns c = procedures-found
