use Rattle.std.proofs.Common.{take}
use Rattle.mod_linker.specs.Items.{items_view}
use Rattle.mod_linker.specs.Entering.{Takes}
use Rattle.mod_linker.proofs.entering.Linker.enter_all.Given as goal

abbrev pub invariant-loop-item : goal.invariant-loop-item
invariant-loop-item l = Takes (items_view (take l.item-index l.items)) l.declared.modes.entries l.initial.self.program l.self.program l.self.known.numbers.entries
