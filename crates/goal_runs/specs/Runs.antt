-- What comes of a goal over linked units.
use Rattle.std.specs.Prelude.{◌≡◌, ℕ, ◌-◌, List, [], map, length, Option, true}
use Rattle.std.specs.Io.KnownBytes.{Appends, Keeps}
use Rattle.pl_terms.specs.Trees.{Tree}
use Rattle.pl_terms.specs.Order.{texts_of}
use Rattle.pl_terms.specs.declared.read_term.ReadTerm.{ReadTerm}
use Rattle.pl_terms.specs.declared.read_term.VarName.{VarName}
use Rattle.pl_ops.specs.Standard.{standard}
use Rattle.pl_ops.specs.Tables.{operator, same_text}
use Rattle.unit_model.specs.Facts.{Facts}
use Rattle.unit_model.specs.Directives.{Text}
use Rattle.solver_model.specs.Search.{Outcome, answers_of}
use Rattle.builtin_model.specs.Naming.{by_texts}
use Rattle.goal_model.specs.Program.{Clauses, Program}
use Rattle.goal_model.specs.Run.{run_of}
use Rattle.naming_laws.specs.SameRun.{SaysSame}
use Rattle.pl_store.specs.Linked.{Linked}
use Rattle.pl_store.specs.Runs.{program_of}
use Rattle.goal_state.specs.Denotation.{linked}
use Rattle.mod_linker.specs.Linking.{SaysNothingElse}
use Rattle.program_model.specs.Linking.{program_of_facts}
use Rattle.goal_runs.specs.Goals.{IsGoal, IsGoalFault}
use Rattle.prep_report.specs.Lines.{end_text}
use Rattle.pl_machine.specs.declared.machine.Machine.{Machine}
use Rattle.pl_machine.specs.declared.run.Show.{Show}
use Rattle.pl_machine.specs.Shown.{events_shown}
use Rattle.pl_machine.specs.Machine.{IsMachine}
use Rattle.pl_machine.specs.Running.{bytes_by, stopped}
use Rattle.goal_runs.specs.Ends.{end_shown, manner_of, manner}
use Rattle.goal_runs.specs.declared.running.Finished.{Finished}
use Rattle.goal_runs.specs.declared.running.GoalEnd.{GoalEnd}
use Rattle.goal_runs.specs.declared.running.GoalEnd.TheVariants as G

-- what a run gives, over texts
abbrev pub Outcomes : Type 0
Outcomes = Outcome (List (Tree Text)) (Tree Text) (Clauses Text)

-- the run of a goal over the program of units
abbrev pub run_over : List (Facts Text) → Tree Text → ℕ → Outcomes
run_over us t budget = run_of by_texts same_text (program_of_facts us) t budget

-- variables by their names and numbers
abbrev pub variables_of : List (Text × ℕ) → List VarName
variables_of = map (λ v. record { name = v.0; number = v.1 })

-- the bytes of a run's events
abbrev pub events_text : List (Text × ℕ) → Outcomes → List ℕ
events_text names r = events_shown (operator standard) (variables_of names) r.events

-- a program over texts says what a linked one says, and nothing of other names than its
abbrev pub Says : Linked → Program Text → Type 0
Says l q = SaysSame l.names (program_of l) q × SaysNothingElse l.names q

-- the run over texts of a goal that was read
abbrev pub run_by : Program Text → List Text → ReadTerm → ℕ → Outcomes
run_by q names goal budget = run_of by_texts same_text q (texts_of names goal.term) budget

-- the bytes that it puts
abbrev pub bytes_of : Show → ReadTerm → Outcomes → List ℕ
bytes_of show goal r = bytes_by show (events_shown (operator standard) goal.names r.events)

-- what is written before the end of a run
pub data Shows (us : List (Facts Text)) (budget : ℕ) (goal : List ℕ) (show : Show) : List ℕ → Type 0 where
  no_goal : (n byte : ℕ) → IsGoalFault goal n byte → Shows us budget goal show []
  a_goal : (t : Tree Text) (names : List (Text × ℕ)) → IsGoal goal t names → Shows us budget goal show (bytes_by show (events_text names (run_over us t budget)))

-- the program of a machine says what this one says
abbrev pub SaysWhat : Machine → Program Text → Type 0
SaysWhat m q = SaysSame m.compiled.names (program_of (linked m.compiled)) q

-- a machine over this program has come to the end of a run
pub record IsFinished (q : Program Text) (budget : ℕ) (f : Finished) (r : Outcomes) : Type 0 where
  pub program : SaysWhat f.machine q
  pub shown : end_text (operator standard) f.machine.compiled.names f.end ≡ end_shown (operator standard) r.ended
  pub manner : manner f.end ≡ manner_of r.ended
  pub steps : f.machine.budget - f.machine.left ≡ budget - r.left
  pub answers : f.machine.answers ≡ stopped (length (answers_of r.events))
  pub over : f.machine.over ≡ true

-- how a goal ended: it was none, or its run has ended
abbrev pub Ends : List (Facts Text) → ℕ → List ℕ → Show → Option (List ℕ) → Option (List ℕ) → GoalEnd → Type 0
Ends us budget goal show old new (G.NoGoal n byte) = IsGoalFault goal n byte × Keeps old new
Ends us budget goal show old new (G.Ended f) =
    (t : Tree Text) × (names : List (Text × ℕ)) × IsGoal goal t names
    × Appends old new (bytes_by show (events_text names (run_over us t budget))) × IsFinished (program_of_facts us) budget f (run_over us t budget)

-- a machine that can be asked
abbrev pub HasMachine : GoalEnd → Type 0
HasMachine (G.NoGoal n byte) = Unit {0}
HasMachine (G.Ended f) = IsMachine f.machine
