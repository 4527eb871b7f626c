-- Entries with their places in memory, and under other names.
use Rattle.std.specs.Prelude.{◌≡◌, ℕ, ◌<◌, ◌^◌, List, [], ◌∷◌, length, map}
use Rattle.std.specs.List.{AllByRecursion}
use Rattle.pl_atoms.specs.Names.{AreDistinct}
use Rattle.pl_terms.specs.declared.cell.Cell.{Cell}
use Rattle.pl_terms.specs.declared.cell.Cell.TheVariants.{Name, Comp}
use Rattle.unit_model.specs.Facts.{Facts, indicator_by}
use Rattle.unit_model.specs.Directives.{Text}
use Rattle.unit_model.specs.Encoding.{text_at}
use Rattle.unit_model.specs.Views.{ind_view}
use Rattle.unit_model.specs.declared.facts.What.{What}
use Rattle.unit_model.specs.declared.facts.What.TheVariants.{Meta}
use Rattle.unit_model.specs.declared.facts.Entry.{Entry}
use Rattle.unit_model.specs.declared.facts.Section.{Section}
use Rattle.unit_format.specs.Uses.{entry_uses}
use Rattle.link_model.specs.Places.{Role as RoleOf, defining, exporting, reexporting_all, reexporting, moding, importing_all, importing, idle, Placed as PlacedOf, places_of}
use Rattle.mod_visible.specs.declared.placed.Role.{Role}
use Rattle.mod_visible.specs.declared.placed.Role.TheVariants.{Defining, Exporting, ReexportingAll, Reexporting, Moding, ImportingAll, Importing, Idle}
use Rattle.mod_visible.specs.declared.placed.Placed.{Placed}

abbrev pub role_view : Role → RoleOf ℕ
role_view (Defining i) = defining (ind_view i)
role_view (Exporting i) = exporting (ind_view i)
role_view (ReexportingAll m) = reexporting_all m.0
role_view (Reexporting m i) = reexporting m.0 (ind_view i)
role_view (Moding i) = moding (ind_view i)
role_view (ImportingAll m) = importing_all m.0
role_view (Importing m i) = importing m.0 (ind_view i)
role_view Idle = idle

abbrev pub placed_view : Placed → PlacedOf ℕ
placed_view p = record { unit = p.unit; section = p.section; byte = p.byte; of = p.module.0; role = role_view p.role }

abbrev pub places_view : List Placed → List (PlacedOf ℕ)
places_view = map placed_view

-- ---- under other names

module _ {N M : Type 0} (f : N → M) where
  abbrev pub role_by : RoleOf N → RoleOf M
  role_by (defining i) = defining (indicator_by f i)
  role_by (exporting i) = exporting (indicator_by f i)
  role_by (reexporting_all m) = reexporting_all (f m)
  role_by (reexporting m i) = reexporting (f m) (indicator_by f i)
  role_by (moding i) = moding (indicator_by f i)
  role_by (importing_all m) = importing_all (f m)
  role_by (importing m i) = importing (f m) (indicator_by f i)
  role_by idle = idle

  abbrev pub placed_by : PlacedOf N → PlacedOf M
  placed_by p = record { unit = p.unit; section = p.section; byte = p.byte; of = f p.of; role = role_by p.role }

-- the entries with the texts of their names
abbrev pub texts_in : List Text → List (PlacedOf ℕ) → List (PlacedOf Text)
texts_in names = map (placed_by (text_at names))

abbrev pub role_names : {N : Type 0} → RoleOf N → List N
role_names (defining i) = i.name ∷ []
role_names (exporting i) = i.name ∷ []
role_names (reexporting_all m) = m ∷ []
role_names (reexporting m i) = m ∷ i.name ∷ []
role_names (moding i) = i.name ∷ []
role_names (importing_all m) = m ∷ []
role_names (importing m i) = m ∷ i.name ∷ []
role_names idle = []

abbrev pub AllBelow : ℕ → List ℕ → Type 0
AllBelow n = AllByRecursion (λ k. k < n)

-- the names of an entry are below a number
abbrev pub IsBelow : ℕ → PlacedOf ℕ → Type 0
IsBelow n p = (p.of < n) × AllBelow n (role_names p.role)

-- ---- heads by their first cells

abbrev pub begun_by : (ℕ → ℕ) → List Cell → RoleOf ℕ
begun_by f (Name s ∷ cs) = defining (record { name = f s.0; arity = 0 })
begun_by f (Comp s k ∷ cs) = defining (record { name = f s.0; arity = k })
begun_by f _ = idle

abbrev pub BeginsBelow : ℕ → List Cell → Type 0
BeginsBelow n (Name s ∷ cs) = s.0 < n
BeginsBelow n (Comp s k ∷ cs) = s.0 < n
BeginsBelow n _ = Unit {0}

-- ---- what the entries of a unit keep

abbrev pub ModesFit : What → Type 0
ModesFit (Meta s ms) = length ms < 2 ^ 8
ModesFit _ = Unit {0}

-- names below a number, and no more modes than a procedure has arguments
pub record EntryFits (n : ℕ) (e : Entry) : Type 0 where
  pub names : AllBelow n (entry_uses e)
  pub modes : ModesFit e.what

pub record SectionFits (n : ℕ) (s : Section) : Type 0 where
  pub of : s.module.0 < n
  pub entries : AllByRecursion (EntryFits n) s.entries

-- ---- all units

-- the table has each name once, and these are the entries of all units
pub record IsFlat (names : List Text) (entries : List Placed) (units : List (Facts Text)) : Type 0 where
  pub distinct : AreDistinct names
  pub below : AllByRecursion (IsBelow (length names)) (places_view entries)
  pub places : texts_in names (places_view entries) ≡ places_of 0 units
