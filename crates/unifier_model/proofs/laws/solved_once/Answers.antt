use Rattle.unifier_model.specs.Mgu.{mgu}
use Rattle.unifier_model.proofs.MguProofs.{Solved-mgu}
use Rattle.unifier_model.proofs.Only.{Solved-only}
use Rattle.unifier_model.proofs.laws.solved_once.Goals as goal

pub returns : goal.returns
returns c = λ es a h. Solved-only es a (mgu es) h (Solved-mgu es)
