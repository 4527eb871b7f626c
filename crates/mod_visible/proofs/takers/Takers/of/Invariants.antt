use Rattle.std.proofs.Common.{◌≡◌, take}
use Rattle.std.specs.List.{filter_map}
use Rattle.mod_visible.specs.Takers.{taker_of, takers_in, IsChained}
use Rattle.mod_visible.proofs.takers.Takers.of.Given as goal

abbrev pub invariant-loop-entry : goal.invariant-loop-entry
invariant-loop-entry l = (takers_in l.takers.links.items ≡ filter_map taker_of (take l.entry-index l.entries)) × IsChained l.takers.links.items l.takers.last.places.entries
