use Rattle.needs_laws.proofs.Again.{reads-needs}
use Rattle.needs_laws.proofs.laws.preparing_reads_needs.Goals as goal

pub returns : goal.returns
returns c = reads-needs
