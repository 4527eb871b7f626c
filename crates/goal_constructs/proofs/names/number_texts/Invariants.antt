use Rattle.std.proofs.Common.{map, take}
use Rattle.pl_atoms.specs.Names.{IsFront}
use Rattle.goal_constructs.specs.Numbers.{AreIn}
use Rattle.goal_constructs.proofs.names.number_texts.Given as goal

abbrev pub invariant-loop-text : goal.invariant-loop-text
invariant-loop-text l = record {
  numbers : AreIn l.names (map (λ t. t.now) (take l.text-index l.texts)) l.ids.items;
  front : IsFront l.initial.names l.names;
}
