-- What the command `prepare` promises once the text has been read.
use Rattle.std.specs.Prelude.{◌≡◌, ◌≢◌, ℕ, ◌⊎◌, List, Some}
use Rattle.std.specs.Io.KnownBytes.{Keeps}
use Rattle.plm_io.specs.Causes.{Rose}
use Rattle.plmod.specs.declared.status.Status.{Status}
use Rattle.plmod.specs.declared.status.Status.TheVariants.{Usage, ReadFault, WriteFault, NoMemory}
use Rattle.plmod.specs.Outcome.{Outcome}
use Rattle.plmod.specs.Prepares.{PrepareGives}
use Rattle.plmod.specs.Fetched.{AreUnder}
use Rattle.plmod.specs.Meets.{Around, IsWhole, Gives, HasStored, KeepsOthers, AnyRose}

-- the command was carried out over these contents of the known files
pub record IsCarriedOut (unit name text : List ℕ) (known : List (List ℕ)) (status : Status) (a : Around) : Type 0 where
  pub contents : List (List ℕ)
  pub under : AreUnder a.file known contents
  pub made : Outcome
  pub gives : PrepareGives name known text contents made
  pub output : Gives status made a.written a.written_after
  pub stored : IsWhole status → HasStored (Some unit) made.stored a.file a.file_after
  pub write_fault : status ≡ WriteFault → (Rose a.puts a.puts_after × Keeps a.written a.written_after)
      ⊎ (Rose a.faults a.faults_after × HasStored (Some unit) made.stored a.file a.file_after)
  pub others : KeepsOthers (Some unit) a.file a.file_after
  pub read : status ≢ ReadFault
  pub used : status ≢ Usage

-- a known file could not be read, or memory ran out, before anything was put or written
pub record IsStopped (known : List (List ℕ)) (status : Status) (a : Around) : Type 0 where
  pub cause : (status ≡ NoMemory) ⊎ ((status ≡ ReadFault) × AnyRose known a.fetches a.fetches_after)
  pub files : a.file_after ≡ a.file
  pub written : a.written_after ≡ a.written

abbrev pub PreparesKnown : List ℕ → List ℕ → List ℕ → List (List ℕ) → Status → Around → Type 0
PreparesKnown unit name text known status a = IsCarriedOut unit name text known status a ⊎ IsStopped known status a
