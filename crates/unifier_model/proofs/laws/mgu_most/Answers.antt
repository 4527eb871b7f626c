use Rattle.std.proofs.Common.{subst}
use Rattle.unifier_model.specs.Unifier.{Solved}
use Rattle.unifier_model.proofs.MguProofs.{Solved-mgu}
use Rattle.unifier_model.proofs.LawProofs.{IsMgu-answer}
use Rattle.unifier_model.proofs.laws.mgu_most.Goals as goal

pub returns : goal.returns
returns c = λ es bs e. IsMgu-answer es bs (subst (Solved es) e (Solved-mgu es))
