use Rattle.std.proofs.Common.{◌≡◌, take, slice_index}
use Rattle.std.specs.List.{filter_map}
use Rattle.unit_format.specs.Rules.{op_in}
use Rattle.mod_faults.specs.Needing.{stamp_by}
use Rattle.mod_faults.proofs.needs.Stamp.of_section.Given as goal

abbrev pub invariant-loop-entry : goal.invariant-loop-entry
invariant-loop-entry l = l.stamp.marks.items ≡ stamp_by (slice_index l.remap) l.section.module.0 (filter_map op_in (take l.entry-index l.entry-items))
