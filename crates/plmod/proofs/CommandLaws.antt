-- What the commands `run` and `all` promise as a whole.
use Rattle.std.proofs.Common.{◌≡◌, ◌≢◌, ℕ, ◌≤◌, inr, List, [], ◌∷◌, length, map, suc, Option, Some, None, refl, sym, ap, subst}
use Rattle.std.proofs.lemmas.List.Elements.{All-nil, All-cons}
use Rattle.std.specs.List.{All}
use Rattle.plm_io.specs.Causes.{Rose}
use Rattle.plm_io.specs.declared.traits.IoFault.{IoFault}
use Rattle.plm_io.specs.declared.traits.IoFault.TheVariants.{Failed, NoMemory as OutOfMemory}
use Rattle.plmod.specs.declared.status.Status.{Status}
use Rattle.plmod.specs.declared.status.Status.TheVariants.{Usage, ReadFault, WriteFault, NoMemory}
use Rattle.plmod.specs.Words.{Order, Run, All as AllOf, read_names, out_name}
use Rattle.plmod.specs.Outcome.{Outcome}
use Rattle.plmod.specs.Comes.{Comes}
use Rattle.plmod.specs.Fetched.{AreUnder}
use Rattle.plmod.specs.Runs.{RunGives, AllGives}
use Rattle.plmod.specs.Meets.{Told, Tells, bytes_under, Gives, AreReadable, AnyRose, HasStored, Around, Meets}
use Rattle.plmod.proofs.FetchedLaws.{bytes_all, readable_all, no_out, meets_unread}

-- as many files as names
pub under_length : (file : Told) (names contents : List (List ℕ)) → AreUnder file names contents → length names ≡ length contents
under_length file [] [] h = refl
under_length file [] (c ∷ contents) h = absurd h
under_length file (n ∷ names) [] h = absurd h
under_length file (n ∷ names) (c ∷ contents) h = ap (λ k. suc k) (under_length file names contents h.1)

-- files that were fetched are short enough
pub under_short : (file : Told) (names contents : List (List ℕ)) → AreUnder file names contents → All (λ t. length t ≤ 67108864) contents
under_short file [] [] h = All-nil (λ t. length t ≤ 67108864)
under_short file [] (c ∷ contents) h = absurd h
under_short file (n ∷ names) [] h = absurd h
under_short file (n ∷ names) (c ∷ contents) h = All-cons (λ t. length t ≤ 67108864) c contents h.0.1 (under_short file names contents h.1)

-- a command that puts nothing has read its files, and what was written is each outcome over them
given_meets : (order : Option Order) (names contents : List (List ℕ)) (status : Status) (a : Around) → order ≢ None → read_names order ≡ names → out_name order ≡ None
    → AreUnder a.file names contents → ((o : Outcome) → map (bytes_under a.file) names ≡ contents → Comes order (bytes_under a.file) o → Gives status o a.written a.written_after)
    → (status ≡ WriteFault → Rose a.faults a.faults_after) → status ≢ ReadFault → status ≢ Usage → a.file_after ≡ a.file → Meets order status a
given_meets order names contents status a some reads out under gives write read used same =
    let T : List (List ℕ) → Type 0 = λ l. Tells l a.file in
    let R : List (List ℕ) → Type 0 = λ l. AreReadable l a.file in
    let stays : (o : Outcome) → HasStored (out_name order) o.stored a.file a.file_after = λ o. (
    let S : Option (List ℕ) → Type 0 = λ n. HasStored n o.stored a.file a.file_after in
    subst S (sym out) (no_out o.stored a.file a.file_after same)) in
    record {
      output = λ tells o h. gives o (bytes_all a.file names contents (subst T reads tells) under) h;
      stored = λ whole tells o h. stays o;
      readable = λ whole tells. subst R (sym reads) (readable_all a.file names contents (subst T reads tells) under);
      no_command = λ h. absurd (some h);
      usage = λ h. absurd (used h);
      read_fault = λ h. absurd (read h);
      write_fault = λ h. inr (write h, λ tells o k. stays o);
      others = λ name h. ap (λ (f : Told). f name) same;
      unread = λ h. absurd (read h);
    }

pub run_meets : (budget : ℕ) (goal : List ℕ) (names contents : List (List ℕ)) (status : Status) (a : Around) → AreUnder a.file names contents
    → ((o : Outcome) → RunGives names contents budget goal o → Gives status o a.written a.written_after)
    → (status ≡ WriteFault → Rose a.faults a.faults_after) → status ≢ ReadFault → status ≢ Usage → a.file_after ≡ a.file → Meets (Some (Run budget goal names)) status a
run_meets budget goal names contents status a under gives =
    given_meets (Some (Run budget goal names)) names contents status a (λ h. (cc)) refl refl under
    (λ o same h. (let P : List (List ℕ) → Type 0 = λ l. RunGives names l budget goal o in gives o (subst P same h)))

pub all_meets : (budget : ℕ) (goal : List ℕ) (names contents : List (List ℕ)) (status : Status) (a : Around) → AreUnder a.file names contents
    → ((o : Outcome) → AllGives names contents budget goal o → Gives status o a.written a.written_after)
    → (status ≡ WriteFault → Rose a.faults a.faults_after) → status ≢ ReadFault → status ≢ Usage → a.file_after ≡ a.file → Meets (Some (AllOf budget goal names)) status a
all_meets budget goal names contents status a under gives =
    given_meets (Some (AllOf budget goal names)) names contents status a (λ h. (cc)) refl refl under
    (λ o same h. (let P : List (List ℕ) → Type 0 = λ l. AllGives names l budget goal o in gives o (subst P same h)))

-- a file could not be read
pub unread_run : (budget : ℕ) (goal : List ℕ) (names : List (List ℕ)) (fault : IoFault) (status : Status) (a : Around) → (fault ≡ Failed → status ≡ ReadFault) → (fault ≡ OutOfMemory → status ≡ NoMemory)
    → (fault ≡ Failed → AnyRose names a.fetches a.fetches_after) → a.file_after ≡ a.file → a.written_after ≡ a.written → Meets (Some (Run budget goal names)) status a
unread_run budget goal names fault status a failed memory any same nothing = meets_unread (Some (Run budget goal names)) fault status a failed memory (λ h. (cc)) any same nothing

pub unread_all : (budget : ℕ) (goal : List ℕ) (names : List (List ℕ)) (fault : IoFault) (status : Status) (a : Around) → (fault ≡ Failed → status ≡ ReadFault) → (fault ≡ OutOfMemory → status ≡ NoMemory)
    → (fault ≡ Failed → AnyRose names a.fetches a.fetches_after) → a.file_after ≡ a.file → a.written_after ≡ a.written → Meets (Some (AllOf budget goal names)) status a
unread_all budget goal names fault status a failed memory any same nothing = meets_unread (Some (AllOf budget goal names)) fault status a failed memory (λ h. (cc)) any same nothing
