use Rattle.link_model.proofs.TogetherLaws.{apart_is}
use Rattle.link_model.proofs.laws.apart_is_together.Goals as goal

pub returns : goal.returns
returns c = apart_is
