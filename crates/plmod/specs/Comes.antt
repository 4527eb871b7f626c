-- What comes of the words' command over these contents of files.
use Rattle.std.specs.Prelude.{◌≡◌, ℕ, List, Option, Some, None, map}
use Rattle.unit_format.specs.Decoding.{AreBytes}
use Rattle.plmod.specs.Words.{Order, Prepare, Link, Run, All, Show, Grow}
use Rattle.plmod.specs.Outcome.{Outcome, usage}
use Rattle.plmod.specs.Prepares.{PrepareGives}
use Rattle.plmod.specs.Links.{UnitsGive, link_lines, show_lines}
use Rattle.plmod.specs.Runs.{RunGives, AllGives, GrowGives}

abbrev pub Comes : Option Order → (List ℕ → List ℕ) → Outcome → Type 0
Comes None files o = o ≡ usage
Comes (Some (Prepare out text known)) files o = PrepareGives text known (files text) (map files known) o
Comes (Some (Link units)) files o = UnitsGive link_lines units (map files units) o
Comes (Some (Run budget goal units)) files o = RunGives units (map files units) budget goal o
Comes (Some (All budget goal texts)) files o = AllGives texts (map files texts) budget goal o
Comes (Some (Show units)) files o = UnitsGive show_lines units (map files units) o
Comes (Some (Grow count budget)) files o = GrowGives count budget o

-- there is no other outcome
abbrev pub OneOutcome : Type 0
OneOutcome = (order : Option Order) (files : List ℕ → List ℕ) (o p : Outcome) → Comes order files o → Comes order files p → o ≡ p

-- there is one, whatever bytes the files have
abbrev pub SomeOutcome : Type 0
SomeOutcome = (order : Option Order) (files : List ℕ → List ℕ) → ((name : List ℕ) → AreBytes (files name)) → (o : Outcome) × Comes order files o
