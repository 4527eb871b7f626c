-- The names of interfaces in memory.
use Rattle.std.specs.Prelude.{List, [], ◌∷◌, if◌then◌else◌}
use Rattle.std.specs.List.{flat_map}
use Rattle.unit_model.specs.Directives.{Text}
use Rattle.unit_model.specs.Encoding.{text_at}
use Rattle.unit_model.specs.Preparing.{is_interface}
use Rattle.unit_model.specs.Views.{kind_view}
use Rattle.unit_model.specs.declared.facts.Section.{Section}
use Rattle.unit_format.specs.declared.unit.Unit.{Unit as ReadUnit}
use Rattle.link_model.specs.Places.{user, system}

abbrev pub interface_name : List Text → Section → List Text
interface_name names s = if is_interface (kind_view s.kind) then text_at names s.module.0 ∷ [] else []

abbrev pub interface_names : List Text → List Section → List Text
interface_names names = flat_map (interface_name names)

abbrev pub unit_interfaces : List ReadUnit → List Text
unit_interfaces = flat_map (λ u. interface_names u.names u.facts.sections)

-- modules that exist without an interface
abbrev pub always : List Text
always = user ∷ system ∷ []
