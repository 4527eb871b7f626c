use Rattle.std.proofs.Common.{◌≡◌, take, true}
use Rattle.std.specs.List.{list_all}
use Rattle.unit_format.specs.Rules.{bits, interface_accepted}
use Rattle.unit_format.proofs.operators.interfaces_accepted.Given as goal

abbrev pub invariant-loop-section : goal.invariant-loop-section
invariant-loop-section l = list_all (interface_accepted l.names (bits l.standard)) (take l.section-index l.sections) ≡ true
