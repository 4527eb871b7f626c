-- What procedures are looked up by.
use Rattle.std.specs.Prelude.{◌≡◌, ℕ, List, nat_eq, Bool, ◌&&◌}
use Rattle.std.specs.Map.{lookup}
use Rattle.pl_atoms.specs.declared.names.NameId.{NameId}
use Rattle.unit_model.specs.Facts.{Indicator}
use Rattle.unit_model.specs.declared.facts.Ind.{Ind}
use Rattle.pl_store.specs.Linked.{Linked}
use Rattle.pl_store.specs.Runs.{number_of}
use Rattle.program_model.specs.Saying.{Said, modes_said}
use Rattle.mod_linker.specs.declared.key.Key.{Key}

abbrev pub key : NameId → Ind → Key
key m i = record { home = m.0; name = i.name.0; arity = i.arity }

abbrev pub ind_of : Key → Indicator ℕ
ind_of k = record { name = k.name; arity = k.arity }

abbrev pub same_key : Key → Key → Bool
same_key j k = nat_eq j.home k.home && (nat_eq j.name k.name && nat_eq j.arity k.arity)

-- the table has the numbers of the program's procedures
abbrev pub AreKnown : Linked → List (Key × ℕ) → Type 0
AreKnown l table = (k : Key) → lookup (same_key k) table ≡ number_of l k.home (ind_of k)

-- the table has the last modes that these entries declare
abbrev pub AreDeclared : List (Said ℕ) → List (Key × List Bool) → Type 0
AreDeclared xs table = (k : Key) → lookup (same_key k) table ≡ modes_said nat_eq xs k.home (ind_of k)
