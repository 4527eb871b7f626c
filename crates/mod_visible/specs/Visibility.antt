-- What the visibility of units keeps.
use Rattle.std.specs.Prelude.{◌≡◌, List, [], length, map, slice_get, Some, Contains}
use Rattle.std.specs.List.{list_any}
use Rattle.pl_atoms.specs.Names.{same_text, AreDistinct}
use Rattle.unit_model.specs.Facts.{Facts}
use Rattle.unit_model.specs.Directives.{Text}
use Rattle.link_model.specs.Places.{system, places_of}
use Rattle.link_model.specs.Seeing.{Cause as CauseOf, causes, exists}
use Rattle.mod_visible.specs.declared.cause.Cause.{Cause}
use Rattle.mod_visible.specs.declared.visibility.Visibility.{Visibility}
use Rattle.mod_visible.specs.Causing.{cause_text, AreNamed}
use Rattle.mod_visible.specs.Leasts.{AreLeasts}
use Rattle.mod_visible.specs.Finding.{clash_place, clash_places}

-- the causes of units, over a table of names
pub record HasCauses (us : List (Facts Text)) (names : List Text) (cs : List Cause) : Type 0 where
  pub distinct : AreDistinct names
  pub named : AreNamed (length names) cs
  pub there : (c : Cause) → Contains cs c → Contains (causes (places_of 0 us)) (cause_text names c)
  pub all : (x : CauseOf) → Contains (causes (places_of 0 us)) x → (c : Cause) × (Contains cs c) × (cause_text names c ≡ x)

-- these texts are the modules that exist
abbrev pub AreModules : List (Facts Text) → List Text → Type 0
AreModules us ms = (m : Text) → list_any (same_text m) ms ≡ exists us m

-- v is the visibility of these units
pub record IsVisibility (us : List (Facts Text)) (v : Visibility) : Type 0 where
  pub causes : HasCauses us v.names v.causes.items
  pub modules : AreModules us v.modules
  pub system : slice_get v.names v.system.0 ≡ Some system
  pub firsts : AreLeasts [] v.causes.items v.firsts.causes.entries
  pub clashes : map clash_place v.clashes.items ≡ clash_places us
