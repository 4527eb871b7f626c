-- Clauses that are tried for a goal, one after another.
use Rattle.std.specs.Prelude.{◌≡◌, ℕ, ◌+◌, ◌<◌, List, ◌++◌, length, false, Some}
use Rattle.pl_terms.specs.Trees.{Tree, var, int, atom, comp, nil, cons}
use Rattle.pl_unify.specs.State.{tree_at}
use Rattle.solver_model.specs.Configurations.{Turns}
use Rattle.goal_model.specs.Program.{Clause}
use Rattle.goal_model.specs.Choices.{key_of}
use Rattle.goal_model.specs.Table.{Items, arguments_in, goal_tree}
use Rattle.goal_code.specs.Continuations.{items_from}
use Rattle.goal_state.specs.declared.frames.Setting.{Setting}
use Rattle.goal_state.specs.Frames.{running}
use Rattle.pl_store.specs.Linked.{clause_at, procedure_at, visible_in}
use Rattle.pl_store.specs.Walks.{clauses_from_place, any_fits}
use Rattle.clause_code.specs.Codes.{code_at}
use Rattle.goal_state.specs.declared.compiled.CompiledProgram.{CompiledProgram}
use Rattle.goal_state.specs.declared.path.Path.{Path}
use Rattle.goal_state.specs.Denotation.{linked, language_of, bodies, clauses_on, state_of, items_here, naming}
use Rattle.goal_state.specs.Well.{MayResolve}
use Rattle.goal_model.specs.Rows.{name_of}
use Rattle.goal_constructs.specs.Goals.{arguments_of}
use Rattle.pl_store.specs.Rules.{indicator_of}
use Rattle.goal_moves.specs.declared.active.Active.{Active}
use Rattle.goal_moves.specs.declared.going.Going.TheVariants.{On, Fails}
use Rattle.goal_moves.specs.declared.procedures.Attempt.{Attempt}
use Rattle.goal_moves.specs.declared.procedures.Tried.{Tried}
use Rattle.goal_moves.specs.declared.procedures.Tried.TheVariants.{Taken, Next, Gone}
use Rattle.goal_moves.specs.Moves.{IsTrying, Moved, tried}
use Rattle.goal_moves.specs.Untried.{behind_taken, clause_alternatives, TriesLeave}
use Rattle.pl_store.specs.Runs.{program_of}

-- a compound has arguments
abbrev pub IsProper : Tree ℕ → Type 0
IsProper (var n) = Unit {0}
IsProper (int z) = Unit {0}
IsProper (atom a) = Unit {0}
IsProper (comp f nil) = ⊥
IsProper (comp f (cons t ts)) = Unit {0}

-- the clauses of a clause's procedure behind it
abbrev pub clauses_after : CompiledProgram → ℕ → List (Clause ℕ)
clauses_after b c = clauses_from_place (linked b).clauses (clause_at (linked b) c).procedure (c + 1)

-- none behind a clause may be taken for the goal
abbrev pub NothingFits : CompiledProgram → Path → Attempt → ℕ → Type 0
NothingFits b p a c = any_fits (key_of (tree_at (state_of p) a.goal)) (clauses_after b c) ≡ false

-- the next one that may be taken
pub record FitsNext (b : CompiledProgram) (p : Path) (a : Attempt) (c n : ℕ) : Type 0 where
  pub later : c < n
  pub within : n < length (linked b).clauses
  pub same : (clause_at (linked b) n).procedure ≡ (clause_at (linked b) c).procedure
  pub skipped : List (Clause ℕ)
  pub split : clauses_after b c ≡ skipped ++ clauses_on (linked b) n
  pub unfit : any_fits (key_of (tree_at (state_of p) a.goal)) skipped ≡ false
  pub fit : MayResolve (linked b) n (tree_at (state_of p) a.goal)

-- a clause was not taken, and another one is next
pub record WasSkipped (b : CompiledProgram) (old new : Path) (a : Attempt) (c n : ℕ) : Type 0 where
  pub trying : IsTrying b new a n
  pub state : state_of new ≡ state_of old
  pub later : c < n
  pub choices : new.choices ≡ old.choices
  pub depth : new.depth ≡ old.depth
  pub width : new.width ≡ old.width
  pub goes : (left : ℕ) → Turns (language_of b) (tried b old a c left) (tried b new a n left)

abbrev pub WasTried : CompiledProgram → Path → Path → Attempt → ℕ → Tried → Type 0
WasTried b old new a c Taken = Moved b old new (tried b old a c) On
WasTried b old new a c (Next n) = WasSkipped b old new a c n.0
WasTried b old new a c Gone = Moved b old new (tried b old a c) Fails × (new.choices ≡ old.choices)

-- What a clause that was tried leaves untried: where the trying ends, there are more records exactly where something is; where another
-- clause is next, as much is behind the one that will be taken.
abbrev pub TriedLeaves : CompiledProgram → Path → Path → Attempt → ℕ → Tried → Type 0
TriedLeaves b old new a c Taken = TriesLeave b old new a c
TriedLeaves b old new a c (Next n) =
    behind_taken (naming b) (program_of (linked b)).clauses (clause_alternatives b old a c) ≡ behind_taken (naming b) (program_of (linked b)).clauses (clause_alternatives b new a n.0)
TriedLeaves b old new a c Gone = TriesLeave b old new a c

-- where the body of a clause runs
abbrev pub body_setting : Attempt → ℕ → ℕ → Setting
body_setting a c base = record { clause = c; base = base; lookup = a.setting.lookup; context = a.setting.context; caller = a.setting.caller; depth = a.setting.depth }

-- its items, and then what follows
abbrev pub body_rest : CompiledProgram → Path → Attempt → ℕ → ℕ → Items ℕ
body_rest b p a c base =
    items_from (running (bodies b) (state_of p) (body_setting a c base)) (items_here b p a.rest.f a.rest.pc) (items_here b p a.rest.f) (code_at b.codes c).goals.start

-- ---- a goal's procedure

-- the goal as its procedure gets it
abbrev pub passed_goal : CompiledProgram → Tree ℕ → ℕ → ℕ → Tree ℕ
passed_goal b t context p = goal_tree (name_of (naming b) t) (arguments_in (naming b) context (procedure_at (linked b) p).modes (arguments_of t))

-- a procedure is visible from a goal's lookup module under its name and number of arguments
pub record IsProcedureOf (b : CompiledProgram) (p : Path) (a : Active) (proc : ℕ) : Type 0 where
  pub within : proc < length (linked b).procedures
  pub indicator : indicator_of (tree_at (state_of p) a.goal) ≡ Some (procedure_at (linked b) proc).indicator
  pub seen : visible_in (linked b).rows a.setting.lookup.0 (procedure_at (linked b) proc).indicator ≡ Some proc
