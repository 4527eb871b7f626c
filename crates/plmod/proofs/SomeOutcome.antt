-- Words and files have an outcome.
use Rattle.std.proofs.Common.{◌≡◌, ℕ, ◌⊎◌, inl, inr, List, [], ◌∷◌, length, map, Bool, true, false, nat_lt, Option, Some, None, refl, sym, ◌∙◌}
use Rattle.std.proofs.lemmas.Bool.{ltb-true, ltb-false}
use Rattle.unit_model.specs.Facts.{Facts}
use Rattle.unit_model.specs.Directives.{Text}
use Rattle.unit_model.specs.Prepared.{Prepared, FirstFault}
use Rattle.unit_model.specs.Encoding.{encoding}
use Rattle.unit_model.specs.Validity.{IsUnit}
use Rattle.unit_format.specs.Reading.{Raw}
use Rattle.unit_format.specs.Decoding.{AreBytes, decoded, facts_of}
use Rattle.unit_format.proofs.Exact.{exact}
use Rattle.reading_laws.proofs.Decided.{PreparingIsDecided-holds}
use Rattle.plmod.specs.Words.{Prepare, Link, Run, All, Show, Grow}
use Rattle.plmod.specs.Outcome.{Outcome, usage}
use Rattle.plmod.specs.Comes.{SomeOutcome}
use Rattle.goal_runs.specs.Goals.{GoalsAreDecided}
use Rattle.plmod.specs.Runs.{RunGives, no_unit as run_no_unit}
use Rattle.plmod.proofs.SomeRun.{some_run, some_all, some_grown}
use Rattle.plmod.specs.Links.{UnitsGive, no_unit as gives_no_unit, units as gives_units, link_lines, show_lines}
use Rattle.plmod.specs.Prepares.{AreUnits, no_files, one_more, FirstNoUnit, here, later, known_from, PrepareGives, no_unit, fault, too_long, unit}

-- bytes are a unit's or they are not
unit_or_none : (bytes : List ℕ) → AreBytes bytes → ((f : Facts Text) × IsUnit f bytes) ⊎ ((f : Facts Text) → IsUnit f bytes → ⊥)
unit_or_none bytes are = go (decoded bytes) refl
  where
    go : (o : Option Raw) → decoded bytes ≡ o → ((f : Facts Text) × IsUnit f bytes) ⊎ ((f : Facts Text) → IsUnit f bytes → ⊥)
    go (Some r) e = inl (facts_of r, (exact.found bytes r are e).0)
    go None e = inr (λ f u. (let r = exact.only bytes f u in let k = sym e ∙ r.1 in cc))

-- files are units, or one of them is the first that is none
units_or_first : (files : List ℕ → List ℕ) → ((name : List ℕ) → AreBytes (files name)) → (names : List (List ℕ))
    → ((fs : List (Facts Text)) × AreUnits (map files names) fs) ⊎ ((first : List ℕ) × FirstNoUnit names (map files names) first)
units_or_first files are [] = inl ([], no_files)
units_or_first files are (n ∷ names) = go (unit_or_none (files n) (are n)) (units_or_first files are names)
  where
    go : ((f : Facts Text) × IsUnit f (files n)) ⊎ ((f : Facts Text) → IsUnit f (files n) → ⊥)
        → ((fs : List (Facts Text)) × AreUnits (map files names) fs) ⊎ ((first : List ℕ) × FirstNoUnit names (map files names) first)
        → ((fs : List (Facts Text)) × AreUnits (files n ∷ map files names) fs) ⊎ ((first : List ℕ) × FirstNoUnit (n ∷ names) (files n ∷ map files names) first)
    go (inr absent) more = inr (n, here absent)
    go (inl u) (inl more) = inl (u.0 ∷ more.0, one_more u.1 more.1)
    go (inl u) (inr first) = inr (first.0, later u.0 u.1 first.1)

module _ (name : List ℕ) (known : List (List ℕ)) (text : List ℕ) (contents : List (List ℕ)) where
  of_facts : (fs : List (Facts Text)) (f : Facts Text) → AreUnits contents fs → Prepared (known_from fs) text f → (o : Outcome) × PrepareGives name known text contents o
  of_facts fs f are prepared = go (nat_lt 67108864 (length (encoding f))) refl
    where
      go : (b : Bool) → nat_lt 67108864 (length (encoding f)) ≡ b → (o : Outcome) × PrepareGives name known text contents o
      go true e = (_, too_long fs f are prepared (ltb-true 67108864 (length (encoding f)) e))
      go false e = (_, unit fs f are prepared (ltb-false 67108864 (length (encoding f)) e))

  of_known : (fs : List (Facts Text)) → AreUnits contents fs
      → ((f : Facts Text) × Prepared (known_from fs) text f) ⊎ ((n : ℕ) × (byte : ℕ) × FirstFault (known_from fs) text n byte)
      → (o : Outcome) × PrepareGives name known text contents o
  of_known fs are (inl p) = of_facts fs p.0 are p.1
  of_known fs are (inr p) = (_, fault fs p.0 p.1 are p.2)

some_prepared : (name : List ℕ) (known : List (List ℕ)) (files : List ℕ → List ℕ) → ((n : List ℕ) → AreBytes (files n))
    → (o : Outcome) × PrepareGives name known (files name) (map files known) o
some_prepared name known files are = go (units_or_first files are known)
  where
    go : ((fs : List (Facts Text)) × AreUnits (map files known) fs) ⊎ ((first : List ℕ) × FirstNoUnit known (map files known) first)
        → (o : Outcome) × PrepareGives name known (files name) (map files known) o
    go (inr first) = (_, no_unit first.0 first.1)
    go (inl units) = of_known name known (files name) (map files known) units.0 units.1 (PreparingIsDecided-holds (known_from units.0) (files name)).either

some_linked : (lines : List (Facts Text) → List ℕ) (names : List (List ℕ)) (files : List ℕ → List ℕ) → ((n : List ℕ) → AreBytes (files n))
    → (o : Outcome) × UnitsGive lines names (map files names) o
some_linked lines names files are = go (units_or_first files are names)
  where
    go : ((fs : List (Facts Text)) × AreUnits (map files names) fs) ⊎ ((first : List ℕ) × FirstNoUnit names (map files names) first)
        → (o : Outcome) × UnitsGive lines names (map files names) o
    go (inr first) = (_, gives_no_unit first.0 first.1)
    go (inl units) = (_, gives_units units.0 units.1)

some_ran : GoalsAreDecided → (budget : ℕ) (goal : List ℕ) (names : List (List ℕ)) (files : List ℕ → List ℕ) → ((n : List ℕ) → AreBytes (files n))
    → (o : Outcome) × RunGives names (map files names) budget goal o
some_ran decided budget goal names files are = go (units_or_first files are names)
  where
    go : ((fs : List (Facts Text)) × AreUnits (map files names) fs) ⊎ ((first : List ℕ) × FirstNoUnit names (map files names) first)
        → (o : Outcome) × RunGives names (map files names) budget goal o
    go (inr first) = (_, run_no_unit first.0 first.1)
    go (inl units) = some_run decided names (map files names) budget goal units.0 units.1

pub some_outcome : GoalsAreDecided → SomeOutcome
some_outcome decided None files are = (usage, refl)
some_outcome decided (Some (Prepare out text known)) files are = some_prepared text known files are
some_outcome decided (Some (Link units)) files are = some_linked link_lines units files are
some_outcome decided (Some (Run budget goal units)) files are = some_ran decided budget goal units files are
some_outcome decided (Some (All budget goal texts)) files are = some_all decided texts (map files texts) budget goal
some_outcome decided (Some (Show units)) files are = some_linked show_lines units files are
some_outcome decided (Some (Grow count budget)) files are = some_grown decided count budget
