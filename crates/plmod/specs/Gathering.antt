-- What the parts of the command `prepare` give.
use Rattle.std.specs.Prelude.{◌≡◌, ℕ, ◌<◌, ◌≤◌, ◌⊎◌, List, length, take, get_or, [], Some}
use Rattle.unit_model.specs.Facts.{Facts}
use Rattle.unit_model.specs.Directives.{Text}
use Rattle.unit_model.specs.Preparing.{Interface}
use Rattle.unit_model.specs.Prepared.{Prepared, FirstFault}
use Rattle.unit_model.specs.Encoding.{encoding}
use Rattle.unit_model.specs.Validity.{IsUnit}
use Rattle.prep_report.specs.Lines.{prepared_text}
use Rattle.plmod.specs.declared.prepare.Gathered.{Gathered}
use Rattle.plmod.specs.declared.prepare.Gathered.TheVariants.{NoUnit, All}
use Rattle.plmod.specs.declared.status.Status.TheVariants.{Done}
use Rattle.plmod.specs.Outcome.{Outcome}
use Rattle.plmod.specs.Prepares.{AreUnits, known_from, faulty, clause_count}

-- what these files let a text know, or the place of the first that is no unit
abbrev pub AreGathered : List (List ℕ) → Gathered → Type 0
AreGathered contents (NoUnit place) = (place < length contents) × ((fs : List (Facts Text)) × AreUnits (take place contents) fs) × ((f : Facts Text) → IsUnit f (get_or contents place []) → ⊥)
AreGathered contents (All known) = (fs : List (Facts Text)) × AreUnits contents fs × (known ≡ known_from fs)

-- what comes of a unit made of a text so long
abbrev pub UnitGives : List ℕ → ℕ → Facts Text → Outcome → Type 0
UnitGives name len f o =
    ((67108864 < length (encoding f)) × (o ≡ faulty name 17 len))
    ⊎ ((length (encoding f) ≤ 67108864)
    × (o ≡ record { bytes = prepared_text (length f.sections) (clause_count f.sections); status = Done; stored = Some (encoding f) }))

-- what comes of a text where this is known
pub data TextGives (name : List ℕ) (known : List Interface) (text : List ℕ) : Outcome → Type 0 where
  fault : (n byte : ℕ) → FirstFault known text n byte → TextGives name known text (faulty name n byte)
  made : (f : Facts Text) (o : Outcome) → Prepared known text f → UnitGives name (length text) f o → TextGives name known text o
