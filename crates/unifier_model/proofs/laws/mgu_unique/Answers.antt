use Rattle.unifier_model.proofs.LawProofs.{IsMgu-unique}
use Rattle.unifier_model.proofs.laws.mgu_unique.Goals as goal

pub returns : goal.returns
returns c = IsMgu-unique
