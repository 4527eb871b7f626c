use Rattle.unifier_model.proofs.MguProofs.{Solved-mgu}
use Rattle.unifier_model.proofs.LawProofs.{Solved-unifier}
use Rattle.unifier_model.proofs.laws.mgu_unifies.Goals as goal

pub returns : goal.returns
returns c = λ es. Solved-unifier (Solved-mgu es)
