use Rattle.link_model.proofs.WholeLaws.{whole_is_one}
use Rattle.link_model.proofs.laws.whole_is_one.Goals as goal

pub returns : goal.returns
returns c = whole_is_one
