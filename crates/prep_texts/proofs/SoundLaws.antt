-- What is prepared is sound, and units give good interfaces.
use Rattle.std.proofs.Common.{◌≡◌, ℕ, ◌≤◌, List, [], ◌∷◌, ◌++◌, length, arith, Result, Ok, Err, OnOk, false, is_err}
use Rattle.std.specs.List.{AllByRecursion-prop}
use Rattle.std.proofs.Math.Logic.{∥∥₁_elim}
use Rattle.std.proofs.Props.{props}
use Rattle.pl_ops.specs.Tables.{operator}
use Rattle.unit_model.specs.Facts.{OperatorOf, Facts}
use Rattle.unit_model.specs.Directives.{Text}
use Rattle.unit_model.specs.Preparing.{Interface}
use Rattle.unit_model.specs.Prepared.{Prepared}
use Rattle.unit_model.specs.Validity.{IsName, FitsOperator}
use Rattle.unit_model.specs.declared.facts.Facts.{Facts as CodeFacts}
use Rattle.unit_model.specs.Encoding.{facts_in}
use Rattle.unit_model.specs.Views.{facts_view}
use Rattle.unit_format.specs.Units.{IsUnitOf}
use Rattle.unit_model.specs.Entries.{IsSound}
use Rattle.unit_model.specs.Known.{IsGoodInterface, AreGood, interfaces_of}
use Rattle.preparing_laws.specs.Readings.{BeginsRun, at_front, at_end, ReadsSoundly}
use Rattle.preparing_laws.proofs.Ends.{prepared-sound, interfaces-good}
use Rattle.reading_laws.specs.Places.{IsPlace}
use Rattle.reading_laws.proofs.Runs.{StartIsPlace-holds, RunsEndAtPlaces-holds, RunsProceed-holds}
use Rattle.reading_laws.proofs.Sound.{ReadingIsSound-holds}

places : (text : List ℕ) (k : ℕ) → BeginsRun text k → IsPlace text k
places text _ at_front = StartIsPlace-holds text
places text k (at_end {k = j} tokens begins runs) = RunsEndAtPlaces-holds text j k tokens (places text j begins) runs

reads-soundly : (text : List ℕ) → length text ≤ 67108864 → ReadsSoundly text
reads-soundly text le k next table tokens t begins runs reads =
    let goes = RunsProceed-holds text k next tokens runs in
    let before = goes.first_before in
    let within = goes.within in
    (ReadingIsSound-holds text k next tokens (operator table) t le (places text k begins) runs reads, omega (arith, before, within, le))

pub all-sound : (known : List Interface) (text : List ℕ) (f : Facts Text) → AreGood known → length text ≤ 67108864 → Prepared known text f → IsSound f
all-sound known text f good le prepared = prepared-sound known text f good (reads-soundly text le) prepared

-- ---- good interfaces

pub good-append : (xs ys : List Interface) → AreGood xs → AreGood ys → AreGood (xs ++ ys)
good-append [] ys h k = k
good-append (x ∷ xs) ys h k = (h.0, good-append xs ys h.1 k)

operator-prop : (o : OperatorOf Text) → IsProp (FitsOperator IsName o)
operator-prop o = hlevel props

interface-prop : (i : Interface) → IsProp (IsGoodInterface i)
interface-prop i = hlevel (props, operator-prop)

pub unit-good : (names : List Text) (facts : CodeFacts) → ∥ IsUnitOf names facts ∥₁ → AreGood (interfaces_of (facts_in names (facts_view facts)))
unit-good names facts h =
    ∥∥₁_elim h (AllByRecursion-prop IsGoodInterface interface-prop (interfaces_of (facts_in names (facts_view facts)))) (λ u. interfaces-good (facts_in names (facts_view facts)) u.valid)

pub when-ok : {A E : Type 0} (P : Type 0) (r : Result A E) → is_err r ≡ false → OnOk r P → P
when-ok P (Ok a) e h = h
when-ok P (Err x) e h = absurd (cc)
