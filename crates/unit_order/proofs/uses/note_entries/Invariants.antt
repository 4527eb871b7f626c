use Rattle.std.proofs.Common.{◌≡◌, take}
use Rattle.std.specs.List.{flat_map}
use Rattle.unit_format.specs.Uses.{entry_uses}
use Rattle.unit_order.specs.Numbering.{all_noted}
use Rattle.unit_order.proofs.uses.note_entries.Given as goal

abbrev pub invariant-loop-entry : goal.invariant-loop-entry
invariant-loop-entry l = l.used ≡ all_noted l.initial.used (flat_map entry_uses (take l.entry-index l.entries))
