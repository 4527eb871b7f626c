use Rattle.goal_code.proofs.DenotationLaws.{flat_are_goals}
use Rattle.goal_constructs.proofs.NameLaws.{control_names}
use Rattle.goal_constructs.proofs.laws.conjuncts_are_flat.Goals as goal

pub returns : goal.returns
returns c = λ n k are. flat_are_goals n k.names.control (control_names n k are)
