use Rattle.unifier_model.proofs.MguProofs.{Solved-mgu}
use Rattle.unifier_model.proofs.laws.solved_by_mgu.Goals as goal

pub returns : goal.returns
returns c = Solved-mgu
