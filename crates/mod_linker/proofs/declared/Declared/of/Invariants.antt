use Rattle.std.proofs.Common.{take}
use Rattle.mod_linker.specs.Items.{items_view}
use Rattle.mod_linker.specs.Keys.{AreDeclared}
use Rattle.mod_linker.proofs.declared.Declared.of.Given as goal

abbrev pub invariant-loop-item : goal.invariant-loop-item
invariant-loop-item l = AreDeclared (items_view (take l.item-index l.items)) l.declared.modes.entries
