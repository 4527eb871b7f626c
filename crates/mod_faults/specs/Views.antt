-- Faults in memory, and what they stand for.
use Rattle.std.specs.Prelude.{List, map}
use Rattle.link_model.specs.Faults.{Fault as FaultOf}
use Rattle.mod_faults.specs.declared.fault.Fault.{Fault}

abbrev pub fault_view : Fault → FaultOf
fault_view f = record { unit = f.unit; byte = f.byte; number = f.number }

abbrev pub faults_view : List Fault → List FaultOf
faults_view = map fault_view
