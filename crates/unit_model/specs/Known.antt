-- The interfaces that units give to texts prepared after them, and what preparing needs of them.
use Rattle.std.specs.Prelude.{◌≡◌, ◌<◌, ◌^◌, List, length, false, true, Option, Some, None, if◌then◌else◌}
use Rattle.std.specs.List.{AllByRecursion, filter_map}
use Rattle.unit_model.specs.Facts.{Section, Facts}
use Rattle.unit_model.specs.Directives.{Text}
use Rattle.unit_model.specs.Preparing.{Interface, is_interface, is_reserved, operators_of}
use Rattle.unit_model.specs.Validity.{IsName, FitsOperator, is_accepted}

abbrev pub interface_of : Section Text → Option Interface
interface_of s = if is_interface s.kind then Some (record { of = s.of; operators = operators_of s.entries }) else None

-- the interfaces of a unit, in order
abbrev pub interfaces_of : Facts Text → List Interface
interfaces_of f = filter_map interface_of f.sections

-- an interface as valid units have it
pub record IsGoodInterface (i : Interface) : Type 0 where
  pub name : IsName i.of
  pub unreserved : is_reserved i.of ≡ false
  pub count : length i.operators < 2 ^ 32
  pub fit : AllByRecursion (FitsOperator IsName) i.operators
  pub accepted : is_accepted i.operators ≡ true

abbrev pub AreGood : List Interface → Type 0
AreGood = AllByRecursion IsGoodInterface
