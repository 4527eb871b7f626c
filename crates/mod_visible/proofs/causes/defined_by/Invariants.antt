use Rattle.std.proofs.Common.{List, take}
use Rattle.unit_model.specs.Directives.{Text}
use Rattle.mod_visible.specs.Causing.{IsTable}
use Rattle.mod_visible.proofs.DefiningLaws.{DefinedSoFar}
use Rattle.mod_visible.proofs.causes.defined_by.Given as goal

abbrev pub invariant-loop-entry : goal.invariant-loop-entry
invariant-loop-entry l = (names : List Text) → IsTable names l.entries → DefinedSoFar names (take l.entry-index l.entries) l.defined.procedures.keys l.initial.causes.items l.causes.items
