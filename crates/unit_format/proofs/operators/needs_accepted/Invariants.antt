use Rattle.std.proofs.Common.{◌≡◌, take, true}
use Rattle.std.specs.List.{list_all}
use Rattle.unit_format.specs.Rules.{bits, need_accepted}
use Rattle.unit_format.proofs.operators.needs_accepted.Given as goal

abbrev pub invariant-loop-need : goal.invariant-loop-need
invariant-loop-need l = list_all (need_accepted l.names (bits l.standard)) (take l.need-index l.needs) ≡ true
