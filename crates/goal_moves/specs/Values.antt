-- Goals that are done by the values in their code.
use Rattle.std.specs.Prelude.{◌≡◌, ℕ, ◌+◌, ◌<◌, List, [], ◌∷◌, length}
use Rattle.pl_terms.specs.Trees.{Tree, int, comp, nil, cons}
use Rattle.pl_unify.specs.State.{State}
use Rattle.pl_unify.specs.declared.code.CodeWord.{CodeWord}
use Rattle.pl_unify.specs.Code.{code_tree, code_tree_in}
use Rattle.builtin_model.specs.Naming.{by_numbers}
use Rattle.builtin_model.specs.Deeds.{Deed, whether, unify, deed}
use Rattle.builtin_model.specs.Output.{output}
use Rattle.builtin_model.specs.declared.row.Row.{Row as Builtin}
use Rattle.goal_model.specs.Rows.{plain, row_of}
use Rattle.goal_code.specs.Runs.{goal_of}
use Rattle.goal_code.specs.declared.instruction.Instruction.{Instruction}
use Rattle.goal_state.specs.declared.frames.Setting.{Setting}
use Rattle.goal_state.specs.declared.compiled.CompiledProgram.{CompiledProgram}
use Rattle.goal_state.specs.declared.path.Path.{Path}
use Rattle.goal_state.specs.Denotation.{naming, bodies, state_of}
use Rattle.goal_moves.specs.declared.code_values.ValueGoal.{ValueGoal}
use Rattle.goal_moves.specs.declared.code_values.ValueGoal.TheVariants as V

-- the arguments of the compound at a place of code stand from another on, and they are two
pub record IsPair (ws : List CodeWord) (p left : ℕ) : Type 0 where
  pub name : ℕ
  pub tree : code_tree ws p ≡ comp name (cons (code_tree ws left) (cons (code_tree ws (left + 1)) nil))
  pub within : left + 1 < length ws

-- what a goal does by its values
abbrev pub value_deed : State → ℕ → List CodeWord → ValueGoal → Deed ℕ
value_deed s base ws (V.Compares ends) = whether ends
value_deed s base ws (V.Assigns place z) = unify (code_tree_in s base ws place) (int z)

-- a place that it needs is one of the code
abbrev pub HasPlace : List CodeWord → ValueGoal → Type 0
HasPlace ws (V.Compares ends) = Unit {0}
HasPlace ws (V.Assigns place z) = place < length ws

-- the term at a place of code has two arguments, with which a row does this, and writes nothing
pub record DoesBy (names : List (List ℕ)) (s : State) (base : ℕ) (ws : List CodeWord) (p : ℕ) (row : Builtin) (goal : ValueGoal) : Type 0 where
  pub name : ℕ
  pub left : Tree ℕ
  pub right : Tree ℕ
  pub tree : code_tree_in s base ws p ≡ comp name (cons left (cons right nil))
  pub does : (caller next : ℕ) → deed (by_numbers names) row (left ∷ right ∷ []) caller next ≡ value_deed s base ws goal
  pub silent : output (by_numbers names) row (left ∷ right ∷ []) ≡ []
  pub place : HasPlace ws goal

-- the goal of an instruction is that of a row which does this
pub record IsValueGoal (b : CompiledProgram) (p : Path) (c : Instruction) (st : Setting) (goal : ValueGoal) : Type 0 where
  pub row : Builtin
  pub does : DoesBy b.names (state_of p) st.base (bodies b st.clause).words (goal_of c) row goal
  pub is : row_of (naming b) (code_tree_in (state_of p) st.base (bodies b st.clause).words (goal_of c)) ≡ plain row (does.left ∷ does.right ∷ [])
