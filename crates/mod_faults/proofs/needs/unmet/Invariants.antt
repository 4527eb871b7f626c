use Rattle.std.proofs.Common.{map, take}
use Rattle.unit_format.specs.Views.{unit_facts}
use Rattle.mod_faults.specs.Views.{faults_view}
use Rattle.mod_faults.specs.Passing.{Passes}
use Rattle.mod_faults.specs.Needing.{stamps_in, Knows, unmets}
use Rattle.mod_faults.proofs.Needing.{known}
use Rattle.mod_faults.proofs.needs.unmet.Given as goal

abbrev pub invariant-loop-number : goal.invariant-loop-number
invariant-loop-number l =
    Passes (Knows l.table.names) unmets (map unit_facts (take l.number l.units)) (known 0 (stamps_in l.initial.stamps.all.keys)) (known l.number (stamps_in l.stamps.all.keys)) (faults_view l.initial.out.items) (faults_view l.out.items)
