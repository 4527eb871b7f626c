-- The machine of a run, which a call of the program hands out.
use Rattle.std.specs.Prelude.{◌≡◌, ℕ, ◌-◌, List, length, map, Bool, true, false, ◌&&◌, Option, Some, None}
use Rattle.pl_terms.specs.Trees.{Tree}
use Rattle.unit_model.specs.Facts.{Facts}
use Rattle.unit_model.specs.Directives.{Text}
use Rattle.solver_model.specs.Search.{answers_of}
use Rattle.link_model.specs.Faults.{first_link}
use Rattle.link_model.specs.Texts.{program, WholeIs}
use Rattle.program_model.specs.Linking.{program_of_facts}
use Rattle.goal_runs.specs.Goals.{IsGoal}
use Rattle.pl_machine.specs.declared.machine.Machine.{Machine}
use Rattle.pl_machine.specs.Machine.{IsMachine}
use Rattle.pl_machine.specs.Running.{stopped}
use Rattle.goal_runs.specs.Runs.{SaysWhat, run_over}
use Rattle.plmod.specs.declared.status.Status.{Status}
use Rattle.plmod.specs.declared.status.Status.TheVariants.{Done, Uncaught, Spent}
use Rattle.plmod.specs.Words.{Order, Run, All, Grow, read_names}
use Rattle.plmod.specs.Prepares.{AreUnits}
use Rattle.plmod.specs.Growing.{grow_texts, grow_goal}
use Rattle.plmod.specs.Meets.{Told, Tells, bytes_under}

-- a machine has run a goal over the program of these units to the end of its run: its program, its steps and its answers
pub record HasRun (us : List (Facts Text)) (budget : ℕ) (goal : List ℕ) (m : Machine) : Type 0 where
  pub term : Tree Text
  pub names : List (Text × ℕ)
  pub is_goal : IsGoal goal term names
  pub program : SaysWhat m (program_of_facts us)
  pub steps : m.budget - m.left ≡ budget - (run_over us term budget).left
  pub answers : m.answers ≡ stopped (length (answers_of (run_over us term budget).events))
  pub over : m.over ≡ true

-- the same over some units that are these
abbrev pub HasRunOver : (List (Facts Text) → Type 0) → ℕ → List ℕ → Machine → Type 0
HasRunOver Are budget goal m = (us : List (Facts Text)) × Are us × HasRun us budget goal m

-- units without a link fault, from these contents of files
abbrev pub AreLinked : List (List ℕ) → List (Facts Text) → Type 0
AreLinked contents us = AreUnits contents us × (first_link us ≡ None)

-- the units of these texts, which are prepared together
abbrev pub AreOfTexts : List (List ℕ) → List (Facts Text) → Type 0
AreOfTexts texts us = WholeIs texts (program us)

-- a machine has run the command's goal over the command's program, over these contents of files
abbrev pub HasRunFor : Option Order → (List ℕ → List ℕ) → Machine → Type 0
HasRunFor (Some (Run budget goal units)) files m = HasRunOver (AreLinked (map files units)) budget goal m
HasRunFor (Some (All budget goal texts)) files m = HasRunOver (AreOfTexts (map files texts)) budget goal m
HasRunFor (Some (Grow count budget)) files m = HasRunOver (AreOfTexts (grow_texts count)) budget grow_goal m
HasRunFor _ files m = ⊥

abbrev pub runs_goal : Option Order → Bool
runs_goal (Some (Run budget goal units)) = true
runs_goal (Some (All budget goal texts)) = true
runs_goal (Some (Grow count budget)) = true
runs_goal _ = false

-- the status is that of a run that has ended
abbrev pub has_ended : Status → Bool
has_ended Done = true
has_ended Uncaught = true
has_ended Spent = true
has_ended _ = false

-- a machine of this kind, or none
abbrev pub Leaves : Bool → (Machine → Type 0) → Option Machine → Type 0
Leaves true Is last = (m : Machine) × (last ≡ Some m) × IsMachine m × Is m
Leaves false Is last = last ≡ None

-- A run that has ended leaves its machine, whatever the shelf tells; any other call leaves none.
abbrev pub LeavesLast : Option Order → Status → Told → Option Machine → Type 0
LeavesLast order status file last = Leaves (runs_goal order && has_ended status) (λ m. Tells (read_names order) file → HasRunFor order (bytes_under file) m) last
