-- What the commands `run` and `all` write, by their parts.
use Rattle.std.proofs.Common.{◌≡◌, ℕ, ◌<◌, List, [], length, get_or, arith, Option, Some, None, ap, ◌∙◌, subst}
use Rattle.std.proofs.lemmas.List.{get_or_default}
use Rattle.unit_model.specs.Facts.{Facts}
use Rattle.unit_model.specs.Directives.{Text}
use Rattle.link_model.specs.Faults.{Fault, first_link}
use Rattle.link_model.specs.Texts.{prep_fault, link_fault, program, WholeIs}
use Rattle.needs_laws.specs.Wholes.{OneWhole}
use Rattle.prep_report.specs.Lines.{not_unit_text}
use Rattle.plmod.specs.declared.status.Status.TheVariants.{NotUnit}
use Rattle.plmod.specs.declared.link.Decoded.TheVariants.{NoUnit}
use Rattle.plmod.specs.Outcome.{Outcome, told}
use Rattle.plmod.specs.Prepares.{AreUnits, FirstNoUnit, faulty}
use Rattle.plmod.specs.Links.{link_faulty}
use Rattle.plmod.specs.Telling.{AreDecoded}
use Rattle.plmod.specs.Runs.{GoalGives, LinkedGives, faulty_link, linked, RunGives, no_unit, units, AllGives, faulty_text, runs}
use Rattle.plmod.proofs.Units.{first_no_unit}
use Rattle.plmod.proofs.Firsts.{same_units, same_first, no_first}

first_of : (names contents : List (List ℕ)) (place : ℕ) → length names ≡ length contents → AreDecoded contents (NoUnit place) → FirstNoUnit names contents (get_or names place [])
first_of names contents place same h =
    let within : place < length names = omega arith in
    first_no_unit names contents place h.1.0 (get_or names place []) same h.0 (get_or_default names place [] (get_or names place []) within) h.1.1 h.2

-- a file that is no unit
pub of_no_unit : (names contents : List (List ℕ)) (place budget : ℕ) (goal : List ℕ) (o : Outcome) → length names ≡ length contents → AreDecoded contents (NoUnit place)
    → RunGives names contents budget goal o → told (not_unit_text (get_or names place [])) NotUnit ≡ o
of_no_unit names contents place budget goal o same h (no_unit a k) =
    ap (λ s. told (not_unit_text s) NotUnit) (same_first names contents (get_or names place []) a (first_of names contents place same h) k)
of_no_unit names contents place budget goal o same h (units us p are gives) = absurd (no_first names contents us (get_or names place []) are (first_of names contents place same h))

-- files that are units
pub of_units : (names contents : List (List ℕ)) (us : List (Facts Text)) (budget : ℕ) (goal : List ℕ) (o : Outcome) → AreUnits contents us
    → RunGives names contents budget goal o → LinkedGives names us budget goal (first_link us) o
of_units names contents us budget goal o are (no_unit a k) = absurd (no_first names contents us a are k)
of_units names contents us budget goal o are (units vs p more gives) =
    let P : List (Facts Text) → Type 0 = λ l. LinkedGives names l budget goal (first_link l) o in
    subst P (same_units contents vs us more are) gives

-- units that link
pub of_linked : (names : List (List ℕ)) (us : List (Facts Text)) (budget : ℕ) (goal : List ℕ) (first : Option Fault) (o : Outcome) → first ≡ None
    → LinkedGives names us budget goal first o → GoalGives us budget goal o
of_linked names us budget goal (Some f) o none (faulty_link g) = absurd (cc)
of_linked names us budget goal None o none (linked p gives) = gives

-- units that don't
pub of_link_fault : (names : List (List ℕ)) (us : List (Facts Text)) (budget : ℕ) (goal : List ℕ) (first : Option Fault) (f : Fault) (o : Outcome) → first ≡ Some f
    → LinkedGives names us budget goal first o → link_faulty names f ≡ o
of_link_fault names us budget goal (Some g) f o some (faulty_link h) = let e : f ≡ g = cc in ap (link_faulty names) e
of_link_fault names us budget goal None f o some (linked p gives) = absurd (cc)

module _ (one : OneWhole) (names contents : List (List ℕ)) (budget : ℕ) (goal : List ℕ) where
  -- a text that has a fault
  pub of_text_fault : (n text byte : ℕ) (o : Outcome) → WholeIs contents (prep_fault n text byte) → AllGives names contents budget goal o → faulty (get_or names text []) n byte ≡ o
  of_text_fault n text byte o whole (faulty_text m t b h) =
      let same = one contents (prep_fault n text byte) (prep_fault m t b) whole h in
      let number : n ≡ m = cc in
      let place : text ≡ t = cc in
      let at : byte ≡ b = cc in
      ap (λ x. faulty (get_or names x []) n byte) place ∙ ap (λ x. faulty (get_or names t []) x byte) number ∙ ap (λ x. faulty (get_or names t []) m x) at
  of_text_fault n text byte o whole (faulty_link f h) = let same = one contents (prep_fault n text byte) (link_fault f) whole h in absurd (cc)
  of_text_fault n text byte o whole (runs us p h gives) = let same = one contents (prep_fault n text byte) (program us) whole h in absurd (cc)

  -- texts whose units don't link
  pub of_whole_fault : (f : Fault) (o : Outcome) → WholeIs contents (link_fault f) → AllGives names contents budget goal o → link_faulty names f ≡ o
  of_whole_fault f o whole (faulty_text m t b h) = let same = one contents (link_fault f) (prep_fault m t b) whole h in absurd (cc)
  of_whole_fault f o whole (faulty_link g h) =
      let same = one contents (link_fault f) (link_fault g) whole h in
      let e : f ≡ g = cc in
      ap (link_faulty names) e
  of_whole_fault f o whole (runs us p h gives) = let same = one contents (link_fault f) (program us) whole h in absurd (cc)

  -- texts that are a program
  pub of_program : (us : List (Facts Text)) (o : Outcome) → WholeIs contents (program us) → AllGives names contents budget goal o → GoalGives us budget goal o
  of_program us o whole (faulty_text m t b h) = let same = one contents (program us) (prep_fault m t b) whole h in absurd (cc)
  of_program us o whole (faulty_link f h) = let same = one contents (program us) (link_fault f) whole h in absurd (cc)
  of_program us o whole (runs vs p h gives) =
      let same = one contents (program us) (program vs) whole h in
      let e : vs ≡ us = cc in
      let P : List (Facts Text) → Type 0 = λ l. GoalGives l budget goal o in
      subst P e gives
