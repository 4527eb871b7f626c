use Rattle.std.proofs.Common.{map, take}
use Rattle.pl_atoms.specs.Names.{IsFront}
use Rattle.goal_constructs.specs.Numbers.{AreIn}
use Rattle.goal_constructs.proofs.names.number_cases.Given as goal

abbrev pub invariant-loop-case : goal.invariant-loop-case
invariant-loop-case l = record {
  numbers : AreIn l.names (map (λ c. c.name.now) (take l.case-index l.cases)) l.ids.items;
  front : IsFront l.initial.names l.names;
}
