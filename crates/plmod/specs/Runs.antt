-- What the commands `run`, `all` and `grow` write and answer.
use Rattle.std.specs.Prelude.{ℕ, ◌-◌, List, [], ◌++◌, length, codes, get_or, Option, Some, None}
use Rattle.pl_terms.specs.Trees.{Tree}
use Rattle.pl_ops.specs.Standard.{standard}
use Rattle.pl_ops.specs.Tables.{operator}
use Rattle.unit_model.specs.Facts.{Facts}
use Rattle.unit_model.specs.Directives.{Text}
use Rattle.solver_model.specs.Search.{answers_of}
use Rattle.link_model.specs.Faults.{Fault, first_link}
use Rattle.link_model.specs.Texts.{prep_fault, link_fault, program, WholeIs}
use Rattle.prep_report.specs.Lines.{fault_text, not_unit_text, count_text}
use Rattle.goal_runs.specs.Goals.{IsGoal, IsGoalFault}
use Rattle.pl_machine.specs.Running.{stopped}
use Rattle.goal_runs.specs.Ends.{Manner, in_full, thrown, spent, manner_of, end_shown}
use Rattle.goal_runs.specs.Runs.{Outcomes, run_over, events_text}
use Rattle.plmod.specs.declared.status.Status.{Status}
use Rattle.plmod.specs.declared.status.Status.TheVariants.{Done, NotUnit, GoalFault, Uncaught, Spent}
use Rattle.plmod.specs.Outcome.{Outcome, told}
use Rattle.plmod.specs.Prepares.{AreUnits, FirstNoUnit, faulty}
use Rattle.plmod.specs.Links.{link_faulty, link_lines}
use Rattle.plmod.specs.Growing.{grow_texts, grow_goal}

abbrev pub status_in : Manner → Status
status_in in_full = Done
status_in thrown = Uncaught
status_in spent = Spent

-- the line of a run's end
abbrev pub end_line : Outcomes → List ℕ
end_line r = end_shown (operator standard) r.ended

abbrev pub status_of : Outcomes → Status
status_of r = status_in (manner_of r.ended)

-- a fault of the goal: P, its number, and its byte in the goal
abbrev pub goal_line : ℕ → ℕ → List ℕ
goal_line n byte = fault_text 80 n (codes "goal") byte

-- the events of a run in their order, and its end
abbrev pub ran : List (Text × ℕ) → Outcomes → Outcome
ran names r = told (events_text names r ++ end_line r) (status_of r)

-- what comes of a goal over linked units
pub data GoalGives (us : List (Facts Text)) (budget : ℕ) (goal : List ℕ) : Outcome → Type 0 where
  no_goal : (n byte : ℕ) → IsGoalFault goal n byte → GoalGives us budget goal (told (goal_line n byte) GoalFault)
  runs : (t : Tree Text) (names : List (Text × ℕ)) → IsGoal goal t names → GoalGives us budget goal (ran names (run_over us t budget))

-- what comes of it over units from files of these names, where this is their first link fault
pub data LinkedGives (names : List (List ℕ)) (us : List (Facts Text)) (budget : ℕ) (goal : List ℕ) : Option Fault → Outcome → Type 0 where
  faulty_link : (f : Fault) → LinkedGives names us budget goal (Some f) (link_faulty names f)
  linked : (o : Outcome) → GoalGives us budget goal o → LinkedGives names us budget goal None o

-- what comes of it over files that are to be units
pub data RunGives (names contents : List (List ℕ)) (budget : ℕ) (goal : List ℕ) : Outcome → Type 0 where
  no_unit : (first : List ℕ) → FirstNoUnit names contents first → RunGives names contents budget goal (told (not_unit_text first) NotUnit)
  units : (us : List (Facts Text)) (o : Outcome) → AreUnits contents us → LinkedGives names us budget goal (first_link us) o → RunGives names contents budget goal o

-- what comes of it over texts, which are prepared together
pub data AllGives (names contents : List (List ℕ)) (budget : ℕ) (goal : List ℕ) : Outcome → Type 0 where
  faulty_text : (n text byte : ℕ) → WholeIs contents (prep_fault n text byte) → AllGives names contents budget goal (faulty (get_or names text []) n byte)
  faulty_link : (f : Fault) → WholeIs contents (link_fault f) → AllGives names contents budget goal (link_faulty names f)
  runs : (us : List (Facts Text)) (o : Outcome) → WholeIs contents (program us) → GoalGives us budget goal o → AllGives names contents budget goal o

-- the lines of a run of which answers and steps are counted alone
abbrev pub counted : List (Facts Text) → ℕ → Outcomes → List ℕ
counted us budget r = link_lines us ++ (count_text (stopped (length (answers_of r.events))) (budget - r.left) ++ end_line r)

-- what comes of the goal of such a run over linked units, where these lines stand before
pub data CountGives (first : List ℕ) (us : List (Facts Text)) (budget : ℕ) : Outcome → Type 0 where
  no_count : (n byte : ℕ) → IsGoalFault grow_goal n byte → CountGives first us budget (told (first ++ goal_line n byte) GoalFault)
  counts : (t : Tree Text) (names : List (Text × ℕ)) → IsGoal grow_goal t names
      → CountGives first us budget (told (first ++ (count_text (stopped (length (answers_of (run_over us t budget).events))) (budget - (run_over us t budget).left) ++ end_line (run_over us t budget)))
      (status_of (run_over us t budget)))

-- what comes of the texts of so many modules; they have no names
pub data GrowGives (count budget : ℕ) : Outcome → Type 0 where
  faulty_text : (n text byte : ℕ) → WholeIs (grow_texts count) (prep_fault n text byte) → GrowGives count budget (faulty [] n byte)
  faulty_link : (f : Fault) → WholeIs (grow_texts count) (link_fault f) → GrowGives count budget (link_faulty [] f)
  no_goal : (us : List (Facts Text)) (n byte : ℕ) → WholeIs (grow_texts count) (program us) → IsGoalFault grow_goal n byte → GrowGives count budget (told (link_lines us ++ goal_line n byte) GoalFault)
  runs : (us : List (Facts Text)) (t : Tree Text) (names : List (Text × ℕ)) → WholeIs (grow_texts count) (program us) → IsGoal grow_goal t names
      → GrowGives count budget (told (counted us budget (run_over us t budget)) (status_of (run_over us t budget)))
