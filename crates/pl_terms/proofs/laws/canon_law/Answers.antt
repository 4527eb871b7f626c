use Rattle.pl_terms.proofs.OrderLaws.{canon-IsNumbered}
use Rattle.pl_terms.proofs.laws.canon_law.Goals as goal

pub returns : goal.returns
returns c = canon-IsNumbered
