use Rattle.link_model.proofs.WholeLaws.{whole_of}
use Rattle.link_model.proofs.laws.whole_of_units.Goals as goal

pub returns : goal.returns
returns c = whole_of
