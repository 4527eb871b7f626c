use Rattle.std.proofs.Common.{◌≡◌, ◌++◌, take, slice_index}
use Rattle.mod_visible.specs.Placing.{places_view}
use Rattle.mod_visible.proofs.Placing.{placed_sections}
use Rattle.mod_visible.proofs.flat.push_sections.Given as goal

abbrev pub invariant-loop-number : goal.invariant-loop-number
invariant-loop-number l = places_view l.entries.items ≡ places_view l.initial.entries.items ++ placed_sections (slice_index l.remap) l.unit (take l.number l.sections)
