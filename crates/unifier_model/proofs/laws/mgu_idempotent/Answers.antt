use Rattle.unifier_model.specs.Mgu.{mgu}
use Rattle.unifier_model.proofs.MguProofs.{Solved-mgu}
use Rattle.unifier_model.proofs.LawProofs.{Solved-idempotent}
use Rattle.unifier_model.proofs.laws.mgu_idempotent.Goals as goal

pub returns : goal.returns
returns c = λ es. Solved-idempotent es (mgu es) (Solved-mgu es)
