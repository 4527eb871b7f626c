use Rattle.pl_terms.proofs.OrderLaws.{standard_cmp-itself}
use Rattle.pl_terms.proofs.laws.order_law.Goals as goal

pub returns : goal.returns
returns c = standard_cmp-itself
