use Rattle.pl_store.proofs.WalkLaws.{walks}
use Rattle.pl_store.proofs.laws.walks_clauses.Goals as goal

pub returns : goal.returns
returns c = walks
