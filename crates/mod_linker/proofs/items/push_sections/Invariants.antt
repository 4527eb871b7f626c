use Rattle.std.proofs.Common.{◌≡◌, ◌++◌, List, take}
use Rattle.std.specs.List.{AllByRecursion}
use Rattle.pl_atoms.specs.Names.{Remaps}
use Rattle.unit_model.specs.Directives.{Text}
use Rattle.mod_linker.specs.Items.{items_view, saids_of, IsSectionOf, AreItems}
use Rattle.mod_linker.proofs.items.push_sections.Given as goal

abbrev pub invariant-loop-section : goal.invariant-loop-section
invariant-loop-section l = record {
  items : items_view l.items.items ≡ items_view l.initial.items.items ++ saids_of l.remap (take l.section-index l.sections);
  good : (from names : List Text) → Remaps from names l.remap → AllByRecursion (IsSectionOf from) l.sections → AreItems names l.initial.items.items → AreItems names l.items.items;
}
