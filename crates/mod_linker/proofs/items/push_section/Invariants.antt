use Rattle.std.proofs.Common.{◌≡◌, ◌<◌, ◌++◌, List, length, take, slice_index}
use Rattle.std.specs.List.{AllByRecursion}
use Rattle.pl_atoms.specs.Names.{Remaps}
use Rattle.unit_model.specs.Directives.{Text}
use Rattle.mod_linker.specs.Items.{items_view, IsEntryOf, AreItems}
use Rattle.mod_linker.proofs.Gathering.{entries_said}
use Rattle.mod_linker.proofs.items.push_section.Given as goal

abbrev pub invariant-loop-entry : goal.invariant-loop-entry
invariant-loop-entry l = record {
  items : items_view l.items.items ≡ items_view l.initial.items.items ++ entries_said (slice_index l.remap) l.home.0 (take l.entry-index l.entry-items);
  good : (from names : List Text) → Remaps from names l.remap → AllByRecursion (IsEntryOf from) l.entry-items → l.home.0 < length names → AreItems names l.initial.items.items → AreItems names l.items.items;
}
