use Rattle.link_model.proofs.GivesLaws.{least}
use Rattle.link_model.proofs.laws.gives_is_least.Goals as goal

pub returns : goal.returns
returns c = least
