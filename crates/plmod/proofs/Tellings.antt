-- What the parts of the commands `link` and `show` give.
use Rattle.std.proofs.Common.{◌≡◌, ◌≢◌, ℕ, zero, suc, ◌+◌, ◌<◌, List, [], ◌∷◌, ◌++◌, length, map, take, get_or, Result, Ok, Err, IfOk, Option, Some, None, refl, sym, ap, ◌∙◌, subst, arith}
use Rattle.std.proofs.lemmas.List.{take_more, map-append}
use Rattle.pl_atoms.specs.declared.memory.NoMemory.{NoMemory}
use Rattle.unit_model.specs.Facts.{Facts}
use Rattle.unit_model.specs.Directives.{Text}
use Rattle.unit_model.specs.Validity.{IsUnit}
use Rattle.unit_format.specs.Views.{unit_facts}
use Rattle.unit_format.specs.declared.unit.Unit.{Unit as ReadUnit}
use Rattle.link_model.specs.Faults.{Fault as FaultOf, first_link}
use Rattle.mod_faults.specs.declared.fault.Fault.{Fault}
use Rattle.mod_faults.specs.Views.{fault_view}
use Rattle.mod_linker.specs.Counting.{linked_modules}
use Rattle.mod_linker.specs.Linking.{IsLinkOf}
use Rattle.pl_store.specs.Linked.{Linked}
use Rattle.prep_report.specs.Lines.{not_unit_text, linked_text}
use Rattle.plmod.specs.declared.answer.Made.{Made}
use Rattle.plmod.specs.declared.status.Status.{Status}
use Rattle.plmod.specs.declared.status.Status.TheVariants.{Done, Usage, PrepFault, NotUnit, LinkFault, GoalFault, Uncaught, Spent, ReadFault, WriteFault, NoMemory as OutOfMemory}
use Rattle.plmod.specs.Outcome.{Outcome, told}
use Rattle.plmod.specs.MadeOutcome.{outcome_of}
use Rattle.plmod.specs.Meets.{Answers, IsWhole}
use Rattle.plmod.specs.Prepares.{AreUnits, one_more, FirstNoUnit, here, later}
use Rattle.plmod.specs.Links.{UnitsGive, no_unit, units, linked_outcome, link_faulty, link_lines}
use Rattle.plmod.proofs.FetchedLaws.{appends_nothing}
use Rattle.plmod.proofs.Units.{units_push}

-- one more unit
pub decoded_more : (contents : List (List ℕ)) (i : ℕ) (bytes : List ℕ) (us : List ReadUnit) (u : ReadUnit) → i < length contents → bytes ≡ get_or contents i bytes → IsUnit (unit_facts u) bytes
    → AreUnits (take i contents) (map unit_facts us) → AreUnits (take (i + 1) contents) (map unit_facts (us ++ u ∷ []))
decoded_more contents i bytes us u h at is are =
    let P : List (List ℕ) → Type 0 = λ l. AreUnits l (map unit_facts us ++ unit_facts u ∷ []) in
    let Q : List (Facts Text) → Type 0 = λ l. AreUnits (take (i + 1) contents) l in
    subst Q (sym (map-append unit_facts us (u ∷ [])))
    (subst P (ap (λ b. take i contents ++ b ∷ []) at ∙ sym (take_more contents i bytes h)) (units_push (take i contents) (map unit_facts us) bytes (unit_facts u) are is))

-- the first file that is no unit, by its place
first_at : (names contents : List (List ℕ)) (place : ℕ) (fs : List (Facts Text)) → length names ≡ length contents → place < length contents → AreUnits (take place contents) fs
    → ((f : Facts Text) → IsUnit f (get_or contents place []) → ⊥) → FirstNoUnit names contents (get_or names place [])
first_at [] [] place fs same h are absent = absurd (omega arith)
first_at [] (c ∷ contents) place fs same h are absent = absurd (omega arith)
first_at (n ∷ names) [] place fs same h are absent = absurd (omega arith)
first_at (n ∷ names) (c ∷ contents) zero fs same h are absent = here absent
first_at (n ∷ names) (c ∷ contents) (suc place) [] same h are absent = elim are [ ]
first_at (n ∷ names) (c ∷ contents) (suc place) (f ∷ fs) same h (one_more u are) absent = later f u (first_at names contents place fs (omega arith) (omega arith) are absent)

-- the line of a file that is no unit
pub no_unit_told : (lines : List (Facts Text) → List ℕ) (names contents : List (List ℕ)) (place : ℕ) (fs : List (Facts Text)) (made : Result Made NoMemory) → length names ≡ length contents
    → place < length contents → AreUnits (take place contents) fs → ((f : Facts Text) → IsUnit f (get_or contents place []) → ⊥)
    → IfOk made (λ m. outcome_of m ≡ told (not_unit_text (get_or names place [])) NotUnit) → IfOk made (λ m. UnitsGive lines names contents (outcome_of m))
no_unit_told lines names contents place fs (Ok m) same h are absent is =
    let P : Outcome → Type 0 = λ o. UnitsGive lines names contents o in
    subst P (sym is) (no_unit (get_or names place []) (first_at names contents place fs same h are absent))
no_unit_told lines names contents place fs (Err e) same h are absent is = tt

-- what comes of units
pub given_by_units : (lines : List (Facts Text) → List ℕ) (names contents : List (List ℕ)) (us : List (Facts Text)) (made : Result Made NoMemory) → AreUnits contents us
    → IfOk made (λ m. outcome_of m ≡ linked_outcome (lines us) names (first_link us)) → IfOk made (λ m. UnitsGive lines names contents (outcome_of m))
given_by_units lines names contents us (Ok m) are same = (let P : Outcome → Type 0 = λ o. UnitsGive lines names contents o in subst P (sym same) (units us are))
given_by_units lines names contents us (Err e) are same = tt

-- a link fault
pub of_fault : (lines : List ℕ) (names : List (List ℕ)) (f : Fault) (first : Option FaultOf) (made : Result Made NoMemory) → Some (fault_view f) ≡ first
    → IfOk made (λ m. outcome_of m ≡ link_faulty names (fault_view f)) → IfOk made (λ m. outcome_of m ≡ linked_outcome lines names first)
of_fault lines names f first (Ok m) is same = same ∙ ap (linked_outcome lines names) is
of_fault lines names f first (Err e) is same = tt

-- no link fault
pub of_none : (line lines : List ℕ) (names : List (List ℕ)) (first : Option FaultOf) → None ≡ first → line ≡ lines → told line Done ≡ linked_outcome lines names first
of_none line lines names first is same = ap (λ l. told l Done) same ∙ ap (linked_outcome lines names) is

-- a linked program has as many modules and procedures as its units
pub lines_of_link : (us : List (Facts Text)) (l : Linked) → IsLinkOf us l → linked_text (length l.modules) (length l.procedures) ≡ link_lines us
lines_of_link us l is = ap (λ n. linked_text n (length l.procedures)) is.modules ∙ ap (λ n. linked_text (length (linked_modules us)) n) is.procedures

-- nothing is written where there is nothing to write
pub answers_nothing : (status : Status) (line : List ℕ) (old : Option (List ℕ)) → line ≡ [] → IsWhole status → Answers status status line old old
answers_nothing status line old none whole = (let P : List ℕ → Type 0 = λ l. Answers status status l old old in subst P (sym none) (go status whole))
  where
    go : (s : Status) → IsWhole s → Answers s s [] old old
    go Done w = (refl, appends_nothing old old refl)
    go Usage w = (refl, appends_nothing old old refl)
    go PrepFault w = (refl, appends_nothing old old refl)
    go NotUnit w = (refl, appends_nothing old old refl)
    go LinkFault w = (refl, appends_nothing old old refl)
    go GoalFault w = (refl, appends_nothing old old refl)
    go Uncaught w = (refl, appends_nothing old old refl)
    go Spent w = (refl, appends_nothing old old refl)
    go ReadFault w = absurd w
    go WriteFault w = absurd w
    go OutOfMemory w = absurd w

pub whole_read : (status : Status) → IsWhole status → status ≢ ReadFault
whole_read status w h = subst IsWhole h w

pub whole_write : (status : Status) → IsWhole status → status ≢ WriteFault
whole_write status w h = subst IsWhole h w
