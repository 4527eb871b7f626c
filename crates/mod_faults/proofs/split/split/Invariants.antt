use Rattle.std.proofs.Common.{List, take}
use Rattle.unit_model.specs.Directives.{Text}
use Rattle.link_model.specs.Faults.{split_at}
use Rattle.mod_visible.specs.Causing.{IsTable, entry_texts}
use Rattle.mod_faults.specs.Views.{faults_view}
use Rattle.mod_faults.specs.Passing.{Passes}
use Rattle.mod_faults.specs.Bodies.{AreTaken}
use Rattle.mod_faults.proofs.Taking.{taken}
use Rattle.mod_faults.proofs.split.split.Given as goal

abbrev pub invariant-loop-entry : goal.invariant-loop-entry
invariant-loop-entry l = (names : List Text) → IsTable names l.entries
    → Passes (AreTaken names) split_at (entry_texts names (take l.entry-index l.entries)) (taken l.initial.bodies.defined.procedures.keys l.initial.bodies.spots.keys) (taken l.bodies.defined.procedures.keys l.bodies.spots.keys) (faults_view l.initial.out.items) (faults_view l.out.items)
