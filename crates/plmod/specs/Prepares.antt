-- What the command `prepare` writes, puts and answers.
use Rattle.std.specs.Prelude.{ℕ, ◌+◌, ◌<◌, ◌≤◌, List, [], ◌∷◌, length, Some}
use Rattle.std.specs.List.{flat_map}
use Rattle.unit_model.specs.Facts.{What, clause, Entry, Section, Facts}
use Rattle.unit_model.specs.Directives.{Text}
use Rattle.unit_model.specs.Preparing.{Interface}
use Rattle.unit_model.specs.Prepared.{Prepared, FirstFault}
use Rattle.unit_model.specs.Encoding.{encoding}
use Rattle.unit_model.specs.Validity.{IsUnit}
use Rattle.unit_model.specs.Known.{interfaces_of}
use Rattle.prep_report.specs.Lines.{fault_text, not_unit_text, prepared_text}
use Rattle.plmod.specs.declared.status.Status.TheVariants.{Done, PrepFault, NotUnit}
use Rattle.plmod.specs.Outcome.{Outcome, told}

-- the contents of files are the bytes of units with these facts, in order
pub data AreUnits : List (List ℕ) → List (Facts Text) → Type 0 where
  no_files : AreUnits [] []
  one_more : {bytes : List ℕ} {contents : List (List ℕ)} {f : Facts Text} {fs : List (Facts Text)}
      → IsUnit f bytes → AreUnits contents fs → AreUnits (bytes ∷ contents) (f ∷ fs)

-- the name of the first file whose contents are no unit's
pub data FirstNoUnit : List (List ℕ) → List (List ℕ) → List ℕ → Type 0 where
  here : {name bytes : List ℕ} {names contents : List (List ℕ)} → ((f : Facts Text) → IsUnit f bytes → ⊥) → FirstNoUnit (name ∷ names) (bytes ∷ contents) name
  later : {name bytes first : List ℕ} {names contents : List (List ℕ)} (f : Facts Text) → IsUnit f bytes → FirstNoUnit names contents first
      → FirstNoUnit (name ∷ names) (bytes ∷ contents) first

-- what units of these facts let a text know
abbrev pub known_from : List (Facts Text) → List Interface
known_from = flat_map interfaces_of

abbrev pub clauses_in_entry : {N : Type 0} → What N → ℕ
clauses_in_entry (clause n h b) = 1
clauses_in_entry _ = 0

abbrev pub clauses_in_entries : {N : Type 0} → List (Entry N) → ℕ
clauses_in_entries [] = 0
clauses_in_entries (e ∷ es) = clauses_in_entry e.what + clauses_in_entries es

-- how many clauses sections have
abbrev pub clause_count : {N : Type 0} → List (Section N) → ℕ
clause_count [] = 0
clause_count (s ∷ ss) = clauses_in_entries s.entries + clause_count ss

-- a fault of preparing: P, its number, and its byte in the file
abbrev pub faulty : List ℕ → ℕ → ℕ → Outcome
faulty name n byte = told (fault_text 80 n name byte) PrepFault

-- what comes of a text under this name, where these files are known
pub data PrepareGives (name : List ℕ) (known : List (List ℕ)) (text : List ℕ) (contents : List (List ℕ)) : Outcome → Type 0 where
  no_unit : (first : List ℕ) → FirstNoUnit known contents first → PrepareGives name known text contents (told (not_unit_text first) NotUnit)
  fault : (fs : List (Facts Text)) (n byte : ℕ) → AreUnits contents fs → FirstFault (known_from fs) text n byte
      → PrepareGives name known text contents (faulty name n byte)
  too_long : (fs : List (Facts Text)) (f : Facts Text) → AreUnits contents fs → Prepared (known_from fs) text f → 67108864 < length (encoding f)
      → PrepareGives name known text contents (faulty name 17 (length text))
  unit : (fs : List (Facts Text)) (f : Facts Text) → AreUnits contents fs → Prepared (known_from fs) text f → length (encoding f) ≤ 67108864
      → PrepareGives name known text contents (record { bytes = prepared_text (length f.sections) (clause_count f.sections); status = Done; stored = Some (encoding f) })
