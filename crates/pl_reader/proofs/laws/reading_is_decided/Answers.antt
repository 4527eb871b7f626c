use Rattle.pl_reader.proofs.OneTree.{Decided-holds}
use Rattle.pl_reader.proofs.laws.reading_is_decided.Goals as goal

pub returns : goal.returns
returns c = Decided-holds
