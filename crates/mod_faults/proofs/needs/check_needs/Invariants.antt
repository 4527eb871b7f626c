use Rattle.std.proofs.Common.{◌≡◌, ◌++◌, take, slice_index}
use Rattle.std.specs.List.{flat_map}
use Rattle.mod_faults.specs.Needing.{unmet_by, stamps_in}
use Rattle.mod_faults.proofs.needs.check_needs.Given as goal

abbrev pub invariant-loop-need : goal.invariant-loop-need
invariant-loop-need l = l.out.items ≡ l.initial.out.items ++ flat_map (unmet_by l.unit (slice_index l.remap) (stamps_in l.stamps.all.keys)) (take l.need-index l.needs)
