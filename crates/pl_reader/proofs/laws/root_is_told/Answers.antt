use Rattle.pl_reader.proofs.RootLaws.{RootIsTold-holds}
use Rattle.pl_reader.proofs.laws.root_is_told.Goals as goal

pub returns : goal.returns
returns c = RootIsTold-holds
