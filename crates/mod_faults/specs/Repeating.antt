-- Interfaces of modules that have one earlier.
use Rattle.std.specs.Prelude.{◌≡◌, ℕ, List, map}
use Rattle.std.specs.List.{list_any}
use Rattle.pl_ops.specs.Tables.{same_text}
use Rattle.unit_model.specs.Facts.{section_by}
use Rattle.unit_model.specs.Directives.{Text}
use Rattle.unit_model.specs.Encoding.{text_at}
use Rattle.unit_model.specs.Views.{section_view}
use Rattle.unit_model.specs.declared.facts.Section.{Section}
use Rattle.link_model.specs.Faults.{Fault as FaultOf, fault, only_if, PlacedInterface, interfaces_in}
use Rattle.mod_faults.specs.declared.fault.Fault.{Fault}
use Rattle.mod_faults.specs.Views.{faults_view}
use Rattle.mod_faults.specs.Passing.{Passes}

abbrev pub repeats : List PlacedInterface → PlacedInterface → List FaultOf
repeats before x = only_if (list_any (λ i. same_text i.of x.of) before) (fault x.unit x.byte 3)

-- the modules of these interfaces
abbrev pub AreSeen : List Text → List PlacedInterface → Type 0
AreSeen seen before = (t : Text) → list_any (same_text t) seen ≡ list_any (λ i. same_text i.of t) before

-- the interfaces among sections in memory
abbrev pub interfaces_here : ℕ → List Text → List Section → List PlacedInterface
interfaces_here unit names ss = interfaces_in unit (map (section_by (text_at names)) (map section_view ss))

-- the pass over these interfaces
abbrev pub Repeats : List PlacedInterface → List Text → List Text → List Fault → List Fault → Type 0
Repeats xs seen seen' old new = Passes AreSeen repeats xs seen seen' (faults_view old) (faults_view new)
