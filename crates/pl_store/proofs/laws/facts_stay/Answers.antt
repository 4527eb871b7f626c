use Rattle.pl_store.proofs.FactLaws.{names-grow}
use Rattle.pl_store.proofs.laws.facts_stay.Goals as goal

pub returns : goal.returns
returns c = names-grow
