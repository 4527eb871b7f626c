-- Machines that were made and did not move.
use Rattle.std.specs.Prelude.{◌≡◌, ℕ, nat_eq, [], length, None, false}
use Rattle.pl_atoms.specs.Names.{IsFront}
use Rattle.pl_terms.specs.declared.read_term.ReadTerm.{ReadTerm}
use Rattle.naming_laws.specs.SameRun.{HasNames}
use Rattle.pl_terms.specs.Trees.{Tree}
use Rattle.pl_terms.specs.Occurrence.{variables}
use Rattle.solver_model.specs.Configurations.{Sane, value_of}
use Rattle.goal_model.specs.Run.{run_of}
use Rattle.pl_store.specs.Linked.{Linked, with_names}
use Rattle.pl_store.specs.Runs.{program_of}
use Rattle.goal_state.specs.declared.frames.Setting.{Setting}
use Rattle.goal_state.specs.declared.compiled.CompiledProgram.{CompiledProgram}
use Rattle.goal_state.specs.declared.path.Path.{Path}
use Rattle.goal_state.specs.Denotation.{linked, naming, language_of, state_of}
use Rattle.goal_moves.specs.declared.going.Going.{Going}
use Rattle.goal_moves.specs.Moves.{Stays}
use Rattle.pl_machine.specs.declared.machine.Machine.{Machine}
use Rattle.pl_machine.specs.Machine.{IsMachine}
use Rattle.pl_machine.specs.Running.{Remains, with_left}

-- A machine over a program, to whose table names were added. Its whole run is before it.
pub record IsStart (l : Linked) (goal : ReadTerm) (steps : ℕ) (m : Machine) : Type 0 where
  pub machine : IsMachine m
  pub tables : linked m.compiled ≡ with_names l m.compiled.names
  pub names : IsFront l.names m.compiled.names
  pub written : HasNames m.compiled.names
  pub variables : m.variables.items ≡ goal.names
  pub budget : m.budget ≡ steps
  pub left : m.left ≡ steps
  pub answers : m.answers ≡ 0
  pub over : m.over ≡ false
  pub remains : Remains m (run_of (naming m.compiled) nat_eq (program_of (linked m.compiled)) goal.term steps)
  pub whole : (left : ℕ) → Remains (with_left m left) (run_of (naming m.compiled) nat_eq (program_of (linked m.compiled)) goal.term left)

-- a path on which nothing stands, over a store with the variables of a goal
pub record IsFresh (p : Path) (goal : Tree ℕ) : Type 0 where
  pub depth : p.depth ≡ 0
  pub choices : p.choices.items ≡ []
  pub template : p.template ≡ None
  pub frames : p.frames ≡ []
  pub width : p.width ≡ length (variables goal)
  pub next : (state_of p).next ≡ length (variables goal)
  pub links : (state_of p).links ≡ []

-- where a run's own goal runs: everything in user
abbrev pub outermost : CompiledProgram → Setting
outermost b = record {
  clause = 0;
  base = 0;
  lookup = b.constructs.names.user_word;
  context = b.constructs.names.user_word;
  caller = b.constructs.names.user_word;
  depth = 0;
}

-- the whole run of a goal is before a path
abbrev pub Begins : (b : CompiledProgram) → Path → Tree ℕ → ℕ → Going → Type 0
Begins b p goal left g = Stays b (λ x. Sane (language_of b) x × (value_of (language_of b) x ≡ run_of (naming b) nat_eq (program_of (linked b)) goal left)) p left g
