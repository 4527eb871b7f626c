use Rattle.writing_laws.proofs.BackLaw.{ReadsBack-holds}
use Rattle.writing_laws.proofs.reads_back.Goals as goal

pub returns : goal.returns
returns c = ReadsBack-holds
