use Rattle.std.proofs.Common.{◌≡◌, take, slice_index}
use Rattle.mod_faults.specs.Needing.{stamp_by}
use Rattle.mod_faults.proofs.needs.Stamp.of_need.Given as goal

abbrev pub invariant-loop-op : goal.invariant-loop-op
invariant-loop-op l = l.stamp.marks.items ≡ stamp_by (slice_index l.remap) l.need.module.0 (take l.op-index l.op-items)
