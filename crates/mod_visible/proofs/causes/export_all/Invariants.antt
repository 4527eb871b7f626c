use Rattle.std.proofs.Common.{◌≡◌, List, [], take}
use Rattle.unit_model.specs.Directives.{Text}
use Rattle.mod_visible.specs.Causing.{IsTable, AreDefined}
use Rattle.mod_visible.proofs.DefiningLaws.{ExportedSoFar}
use Rattle.mod_visible.proofs.causes.export_all.Given as goal

abbrev pub invariant-loop-entry : goal.invariant-loop-entry
invariant-loop-entry l = (names : List Text) → IsTable names l.entries → AreDefined names l.entries l.defined.procedures.keys → l.initial.closing.found.keys ≡ []
    → ExportedSoFar names l.entries (take l.entry-index l.entries) l.initial.closing.causes.items l.closing.found.keys l.closing.causes.items
