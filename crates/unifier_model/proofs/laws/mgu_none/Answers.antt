use Rattle.std.proofs.Common.{subst}
use Rattle.unifier_model.specs.UnifierLaws.{Factors}
use Rattle.unifier_model.proofs.MguProofs.{Solved-mgu}
use Rattle.unifier_model.proofs.LawProofs.{Solved-factors}
use Rattle.unifier_model.proofs.laws.mgu_none.Goals as goal

pub returns : goal.returns
returns c = λ es e s u. subst (Factors s) e (Solved-factors s (Solved-mgu es) u)
