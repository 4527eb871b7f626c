use Rattle.pl_reader.proofs.Complete.{OneTree-holds}
use Rattle.pl_reader.proofs.laws.one_tree.Goals as goal

pub returns : goal.returns
returns c = OneTree-holds
