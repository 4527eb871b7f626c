use Rattle.link_model.proofs.LeastLaws.{first_is}
use Rattle.link_model.proofs.laws.first_is_least.Goals as goal

pub returns : goal.returns
returns c = first_is
