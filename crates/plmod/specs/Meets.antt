-- What a call of the program promises, for each command.
use Rattle.std.specs.Prelude.{◌≡◌, ◌≢◌, ℕ, ◌≤◌, ◌⊎◌, List, [], ◌∷◌, length, Option, Some, None, MatchOption, Contains, unwrap_or, option_map}
use Rattle.std.specs.Io.KnownBytes.{Appends, Keeps}
use Rattle.plm_io.specs.Causes.{Rose, AppendsFront}
use Rattle.plmod.specs.declared.status.Status.{Status}
use Rattle.plmod.specs.declared.status.Status.TheVariants.{Done, Usage, PrepFault, NotUnit, LinkFault, GoalFault, Uncaught, Spent, ReadFault, WriteFault, NoMemory}
use Rattle.plmod.specs.Words.{Order, read_names, out_name}
use Rattle.plmod.specs.Outcome.{Outcome}
use Rattle.plmod.specs.Comes.{Comes}

-- what a shelf has under each name, where it tells
abbrev pub Told : Type 0
Told = List ℕ → Option (Option (List ℕ))

-- the shelf tells what is under each of these names
abbrev pub Tells : List (List ℕ) → Told → Type 0
Tells [] file = Unit {0}
Tells (name ∷ names) file = MatchOption (file name) ⊥ (λ _. Unit {0}) × Tells names file

abbrev pub bytes_under : Told → List ℕ → List ℕ
bytes_under file name = unwrap_or (unwrap_or (file name) None) []

-- What is written of these bytes under a status, where this one is wanted. A failed read comes before anything is written.
abbrev pub Answers : Status → Status → List ℕ → Option (List ℕ) → Option (List ℕ) → Type 0
Answers ReadFault want bytes old new = Keeps old new
Answers WriteFault want bytes old new = AppendsFront old new bytes
Answers NoMemory want bytes old new = AppendsFront old new bytes
Answers Done want bytes old new = (want ≡ Done) × Appends old new bytes
Answers Usage want bytes old new = (want ≡ Usage) × Appends old new bytes
Answers PrepFault want bytes old new = (want ≡ PrepFault) × Appends old new bytes
Answers NotUnit want bytes old new = (want ≡ NotUnit) × Appends old new bytes
Answers LinkFault want bytes old new = (want ≡ LinkFault) × Appends old new bytes
Answers GoalFault want bytes old new = (want ≡ GoalFault) × Appends old new bytes
Answers Uncaught want bytes old new = (want ≡ Uncaught) × Appends old new bytes
Answers Spent want bytes old new = (want ≡ Spent) × Appends old new bytes

abbrev pub Gives : Status → Outcome → Option (List ℕ) → Option (List ℕ) → Type 0
Gives status out old new = Answers status out.status out.bytes old new

-- the status says that all was read and written
abbrev pub IsWhole : Status → Type 0
IsWhole ReadFault = ⊥
IsWhole WriteFault = ⊥
IsWhole NoMemory = ⊥
IsWhole Done = Unit {0}
IsWhole Usage = Unit {0}
IsWhole PrepFault = Unit {0}
IsWhole NotUnit = Unit {0}
IsWhole LinkFault = Unit {0}
IsWhole GoalFault = Unit {0}
IsWhole Uncaught = Unit {0}
IsWhole Spent = Unit {0}

-- the status of words that are no command, where their line could be written
abbrev pub IsUsage : Status → Type 0
IsUsage Usage = Unit {0}
IsUsage WriteFault = Unit {0}
IsUsage NoMemory = Unit {0}
IsUsage _ = ⊥

-- each of these files is there and short enough
abbrev pub AreReadable : List (List ℕ) → Told → Type 0
AreReadable [] file = Unit {0}
AreReadable (name ∷ names) file = ((bytes : List ℕ) × (file name ≡ Some (Some bytes)) × (length bytes ≤ 67108864)) × AreReadable names file

-- a fetch of one of these files has failed
abbrev pub AnyRose : List (List ℕ) → (List ℕ → ℕ) → (List ℕ → ℕ) → Type 0
AnyRose names before now = (name : List ℕ) × Contains names name × Rose (before name) (now name)

-- all names but this one have what they had
abbrev pub KeepsOthers : Option (List ℕ) → Told → Told → Type 0
KeepsOthers out old new = (name : List ℕ) → out ≢ Some name → new name ≡ old name

-- the files are those of an outcome: the bytes that are stored, if any, are under the name
abbrev pub HasStored : Option (List ℕ) → Option (List ℕ) → Told → Told → Type 0
HasStored out None old new = new ≡ old
HasStored None (Some bytes) old new = new ≡ old
HasStored (Some out) (Some bytes) old new = new out ≡ option_map (λ _. Some bytes) (old out)

-- the files are those of the command's outcome
abbrev pub Stores : Option Order → Told → Told → Type 0
Stores order old new = (o : Outcome) → Comes order (bytes_under old) o → HasStored (out_name order) o.stored old new

-- a shelf and a sink, before and after a call
pub record Around : Type 0 where
  pub file : Told
  pub file_after : Told
  pub fetches : List ℕ → ℕ
  pub fetches_after : List ℕ → ℕ
  pub puts : ℕ
  pub puts_after : ℕ
  pub written : Option (List ℕ)
  pub written_after : Option (List ℕ)
  pub faults : ℕ
  pub faults_after : ℕ

pub record Meets (order : Option Order) (status : Status) (a : Around) : Type 0 where
  -- what is written and answered is a function of the command and the files
  pub output : Tells (read_names order) a.file → (o : Outcome) → Comes order (bytes_under a.file) o → Gives status o a.written a.written_after
  -- so are the files
  pub stored : IsWhole status → Tells (read_names order) a.file → Stores order a.file a.file_after
  -- no failed fetch is passed over
  pub readable : IsWhole status → Tells (read_names order) a.file → AreReadable (read_names order) a.file
  -- words that are no command, and no others, have the usage line, whatever the shelf tells
  pub no_command : order ≡ None → IsUsage status
  pub usage : status ≡ Usage → order ≡ None
  -- when each fault comes
  pub read_fault : status ≡ ReadFault → AnyRose (read_names order) a.fetches a.fetches_after
  pub write_fault : status ≡ WriteFault → (Rose a.puts a.puts_after × Keeps a.written a.written_after)
      ⊎ (Rose a.faults a.faults_after × (Tells (read_names order) a.file → Stores order a.file a.file_after))
  -- what stays
  pub others : KeepsOthers (out_name order) a.file a.file_after
  pub unread : status ≡ ReadFault → Keeps a.written a.written_after × (a.file_after ≡ a.file)
