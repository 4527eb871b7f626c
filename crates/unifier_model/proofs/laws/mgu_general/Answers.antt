use Rattle.unifier_model.proofs.MguProofs.{Solved-mgu}
use Rattle.unifier_model.proofs.LawProofs.{Solved-factors}
use Rattle.unifier_model.proofs.laws.mgu_general.Goals as goal

pub returns : goal.returns
returns c = λ es s u. Solved-factors s (Solved-mgu es) u
