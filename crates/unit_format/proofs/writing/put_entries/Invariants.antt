use Rattle.std.proofs.Common.{◌≡◌, ◌++◌, take, map}
use Rattle.std.specs.List.{flat_map}
use Rattle.unit_model.specs.Views.{entry_view}
use Rattle.unit_model.specs.Encoding.{entry_bytes}
use Rattle.unit_format.proofs.writing.put_entries.Given as goal

abbrev pub invariant-loop-entry : goal.invariant-loop-entry
invariant-loop-entry l = l.out ≡ l.initial.out ++ flat_map entry_bytes (map entry_view (take l.entry-index l.entries))
