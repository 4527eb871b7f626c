use Rattle.std.proofs.Common.{◌≡◌, ◌++◌, take, slice_index}
use Rattle.mod_visible.specs.Placing.{places_view}
use Rattle.mod_visible.proofs.Placing.{placed_entries}
use Rattle.mod_visible.proofs.flat.push_entries.Given as goal

abbrev pub invariant-loop-entry : goal.invariant-loop-entry
invariant-loop-entry l = places_view l.out.items ≡ places_view l.initial.out.items ++ placed_entries (slice_index l.remap) l.unit l.section l.home.0 (take l.entry-index l.entries)
