-- Entries that ask for what isn't there.
use Rattle.std.specs.Prelude.{ℕ, List, [], ◌∷◌, Bool, Option, Some, None, if◌then◌else◌}
use Rattle.std.specs.List.{flat_map, list_any}
use Rattle.pl_atoms.specs.declared.names.NameId.{NameId}
use Rattle.unit_model.specs.Directives.{Text}
use Rattle.unit_model.specs.Encoding.{text_at}
use Rattle.link_model.specs.Places.{Placed as PlacedOf}
use Rattle.link_model.specs.Giving.{gives_some}
use Rattle.link_model.specs.Faults.{Fault as FaultOf, missing}
use Rattle.mod_visible.specs.declared.placed.Role.{Role}
use Rattle.mod_visible.specs.declared.placed.Role.TheVariants.{Exporting, Reexporting, Moding, Importing}
use Rattle.mod_visible.specs.declared.placed.Placed.{Placed}
use Rattle.mod_visible.specs.Causing.{ind_text}
use Rattle.mod_faults.specs.declared.fault.Fault.{Fault}
use Rattle.mod_faults.specs.declared.bodies.Procedure.{Procedure}
use Rattle.mod_faults.specs.Bodies.{procedure, same_procedure}

abbrev pub unless : Bool → ℕ → Option ℕ
unless b n = if b then None else Some n

-- the number of the fault of an entry in memory
abbrev pub number_by : Role → NameId → List Text → List Procedure → List (PlacedOf Text) → Option ℕ
number_by (Exporting i) m names keys ps = unless (list_any (same_procedure (procedure m i)) keys) 4
number_by (Moding i) m names keys ps = unless (list_any (same_procedure (procedure m i)) keys) 5
number_by (Reexporting n i) m names keys ps = unless (gives_some ps (text_at names n.0) (ind_text names i.name.0 i.arity)) 6
number_by (Importing n i) m names keys ps = unless (gives_some ps (text_at names n.0) (ind_text names i.name.0 i.arity)) 6
number_by _ m names keys ps = None

abbrev pub number_of : List Text → List Procedure → List (PlacedOf Text) → Placed → Option ℕ
number_of names keys ps p = number_by p.role p.module names keys ps

abbrev pub fault_by : Option ℕ → Placed → List Fault
fault_by None p = []
fault_by (Some n) p = record { number = n; unit = p.unit; byte = p.byte } ∷ []

abbrev pub missing_by : List Text → List Procedure → List (PlacedOf Text) → Placed → List Fault
missing_by names keys ps p = fault_by (number_of names keys ps p) p

-- the faults of entries that ask for what isn't there
abbrev pub missings : List (PlacedOf Text) → List FaultOf
missings ps = flat_map (missing ps) ps
