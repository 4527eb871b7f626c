use Rattle.std.proofs.Common.{◌≡◌, map, take}
use Rattle.pl_reader.specs.Numbering.{met}
use Rattle.pl_reader.proofs.variables.Variables.into_names.Given as goal

abbrev pub invariant-loop-at : goal.invariant-loop-at
invariant-loop-at l = map (λ v. (v.name, v.number)) l.names ≡ take l.at (met l.fn.self).names
