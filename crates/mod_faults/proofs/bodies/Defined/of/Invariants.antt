use Rattle.std.proofs.Common.{List, take}
use Rattle.unit_model.specs.Directives.{Text}
use Rattle.mod_visible.specs.Causing.{IsTable, entry_texts}
use Rattle.mod_faults.specs.Bodies.{AreDefined}
use Rattle.mod_faults.proofs.bodies.Defined.of.Given as goal

abbrev pub invariant-loop-entry : goal.invariant-loop-entry
invariant-loop-entry l = (names : List Text) → IsTable names l.entries → AreDefined names (entry_texts names (take l.entry-index l.entries)) l.defined.procedures.keys
