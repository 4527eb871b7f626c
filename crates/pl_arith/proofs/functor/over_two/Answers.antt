use Rattle.std.proofs.Common.{arith}
use Rattle.pl_arith.proofs.Evaluables.{none_of_one}
use Rattle.pl_arith.proofs.functor.over_two.Goals as goal

pub returns-in-Some-One : goal.returns-in-Some-One
returns-in-Some-One c = grind (arith, none_of_one)
