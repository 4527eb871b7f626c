-- What the commands `link` and `show` promise as a whole.
use Rattle.std.proofs.Common.{◌≡◌, ◌≢◌, ℕ, inr, List, map, Option, Some, None, refl, sym, ap, subst}
use Rattle.plm_io.specs.Causes.{Rose}
use Rattle.plm_io.specs.declared.traits.IoFault.{IoFault}
use Rattle.plm_io.specs.declared.traits.IoFault.TheVariants.{Failed, NoMemory as OutOfMemory}
use Rattle.unit_model.specs.Facts.{Facts}
use Rattle.unit_model.specs.Directives.{Text}
use Rattle.link_model.specs.Faults.{first_link}
use Rattle.prep_report.specs.Lines.{not_unit_text}
use Rattle.plmod.specs.declared.status.Status.{Status}
use Rattle.plmod.specs.declared.status.Status.TheVariants.{Usage, NotUnit, ReadFault, WriteFault, NoMemory}
use Rattle.plmod.specs.declared.link.Asked.{Asked}
use Rattle.plmod.specs.declared.link.Asked.TheVariants.{Rows, Counts}
use Rattle.plmod.specs.Words.{Order, Link, Show, read_names, out_name}
use Rattle.plmod.specs.Outcome.{Outcome, told}
use Rattle.plmod.specs.Comes.{Comes}
use Rattle.plmod.specs.Links.{UnitsGive, no_unit, units, linked_outcome, link_lines, show_lines}
use Rattle.plmod.specs.Telling.{asked_of, lines_of}
use Rattle.plmod.specs.Fetched.{AreUnder}
use Rattle.plmod.specs.Meets.{Told, Tells, bytes_under, Gives, AreReadable, AnyRose, HasStored, Around, Meets}
use Rattle.plmod.proofs.FetchedLaws.{bytes_all, readable_all, no_out, meets_unread}
use Rattle.plmod.proofs.Firsts.{same_units, same_first, no_first}

-- ---- one outcome

pub one_linked : (lines : List (Facts Text) → List ℕ) (names contents : List (List ℕ)) (o p : Outcome) → UnitsGive lines names contents o → UnitsGive lines names contents p → o ≡ p
one_linked lines names contents o p (no_unit a first) (no_unit b other) = ap (λ s. told (not_unit_text s) NotUnit) (same_first names contents a b first other)
one_linked lines names contents o p (no_unit a first) (units us are) = absurd (no_first names contents us a are first)
one_linked lines names contents o p (units us are) (no_unit a first) = absurd (no_first names contents us a are first)
one_linked lines names contents o p (units us are) (units vs more) = ap (λ l. linked_outcome (lines l) names (first_link l)) (same_units contents us vs are more)

-- ---- the commands

-- a command that puts nothing has read its files, and its outcome was written
told_meets : (order : Option Order) (names contents : List (List ℕ)) (status : Status) (made : Outcome) (a : Around) → order ≢ None → read_names order ≡ names → out_name order ≡ None
    → AreUnder a.file names contents → ((o : Outcome) → map (bytes_under a.file) names ≡ contents → Comes order (bytes_under a.file) o → made ≡ o)
    → Gives status made a.written a.written_after → (status ≡ WriteFault → Rose a.faults a.faults_after) → status ≢ ReadFault → status ≢ Usage
    → a.file_after ≡ a.file → Meets order status a
told_meets order names contents status made a some reads out under one gives write read used same =
    let G : Outcome → Type 0 = λ o. Gives status o a.written a.written_after in
    let T : List (List ℕ) → Type 0 = λ l. Tells l a.file in
    let R : List (List ℕ) → Type 0 = λ l. AreReadable l a.file in
    let stays : (o : Outcome) → HasStored (out_name order) o.stored a.file a.file_after = λ o. (
    let S : Option (List ℕ) → Type 0 = λ n. HasStored n o.stored a.file a.file_after in
    subst S (sym out) (no_out o.stored a.file a.file_after same)) in
    record {
      output = λ tells o h. subst G (one o (bytes_all a.file names contents (subst T reads tells) under) h) gives;
      stored = λ whole tells o h. stays o;
      readable = λ whole tells. subst R (sym reads) (readable_all a.file names contents (subst T reads tells) under);
      no_command = λ h. absurd (some h);
      usage = λ h. absurd (used h);
      read_fault = λ h. absurd (read h);
      write_fault = λ h. inr (write h, λ tells o k. stays o);
      others = λ name h. ap (λ (f : Told). f name) same;
      unread = λ h. absurd (read h);
    }

same_given : (lines : List (Facts Text) → List ℕ) (names contents others : List (List ℕ)) (made o : Outcome) → UnitsGive lines names contents made → others ≡ contents → UnitsGive lines names others o → made ≡ o
same_given lines names contents others made o gives same h =
    let P : List (List ℕ) → Type 0 = λ l. UnitsGive lines names l o in
    one_linked lines names contents made o gives (subst P same h)

pub told_units : (asked : Asked) (names contents : List (List ℕ)) (status : Status) (made : Outcome) (a : Around) → AreUnder a.file names contents → UnitsGive (lines_of asked) names contents made
    → Gives status made a.written a.written_after → (status ≡ WriteFault → Rose a.faults a.faults_after) → status ≢ ReadFault → status ≢ Usage
    → a.file_after ≡ a.file → Meets (Some (asked_of asked names)) status a
told_units Rows names contents status made a under gives =
    told_meets (Some (Show names)) names contents status made a (λ h. (cc)) refl refl under (λ o same h. same_given show_lines names contents (map (bytes_under a.file) names) made o gives same h)
told_units Counts names contents status made a under gives =
    told_meets (Some (Link names)) names contents status made a (λ h. (cc)) refl refl under (λ o same h. same_given link_lines names contents (map (bytes_under a.file) names) made o gives same h)

-- a file could not be read
pub unread_units : (asked : Asked) (names : List (List ℕ)) (fault : IoFault) (status : Status) (a : Around) → (fault ≡ Failed → status ≡ ReadFault) → (fault ≡ OutOfMemory → status ≡ NoMemory)
    → (fault ≡ Failed → AnyRose names a.fetches a.fetches_after) → a.file_after ≡ a.file → a.written_after ≡ a.written → Meets (Some (asked_of asked names)) status a
unread_units Rows names fault status a failed memory any same nothing = meets_unread (Some (Show names)) fault status a failed memory (λ h. (cc)) any same nothing
unread_units Counts names fault status a failed memory any same nothing = meets_unread (Some (Link names)) fault status a failed memory (λ h. (cc)) any same nothing

-- memory ran out before anything was written
pub untold_units : (asked : Asked) (names : List (List ℕ)) (a : Around) → a.file_after ≡ a.file → a.written_after ≡ a.written → Meets (Some (asked_of asked names)) NoMemory a
untold_units asked names a same nothing = unread_units asked names OutOfMemory NoMemory a (λ h. (cc)) (λ h. refl) (λ h. (cc)) same nothing
