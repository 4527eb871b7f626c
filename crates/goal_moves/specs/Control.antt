-- What the steps of control constructs do.
use Rattle.std.specs.Prelude.{◌≡◌, ℕ, ◌+◌, [], ◌∷◌, ◌++◌, Result, Ok, Err}
use Rattle.pl_terms.specs.Trees.{Tree}
use Rattle.pl_unify.specs.declared.word.Ref.{Ref}
use Rattle.pl_unify.specs.declared.store.Mark.{Mark}
use Rattle.pl_unify.specs.State.{State, state_at, tree_at, IsRef, IsMark, IsStore, Grows}
use Rattle.solver_model.specs.Search.{Cut}
use Rattle.builtin_model.specs.Naming.{Naming}
use Rattle.builtin_model.specs.Faults.{type_fault, fault_tree}
use Rattle.builtin_model.specs.declared.error.Expected.TheVariants as E
use Rattle.goal_model.specs.Environments.{argument_place}
use Rattle.goal_model.specs.Bodies.{Goal, flat}
use Rattle.goal_model.specs.Table.{Moved as Activation, Items, unless_raised, node, on}
use Rattle.pl_store.specs.Runs.{program_of}
use Rattle.goal_state.specs.Frames.{env_of}
use Rattle.goal_state.specs.declared.frames.Setting.{Setting}
use Rattle.goal_state.specs.declared.choice.ChoiceKind.{ChoiceKind}
use Rattle.goal_state.specs.declared.compiled.CompiledProgram.{CompiledProgram}
use Rattle.goal_state.specs.declared.path.Path.{Path}
use Rattle.goal_state.specs.Denotation.{linked, naming, language_of, state_of, items_here, world_here}
use Rattle.goal_state.specs.Steps.{Opened}
use Rattle.goal_constructs.specs.Calling.{IsCalled}
use Rattle.goal_constructs.specs.declared.calling.Called.{Called}
use Rattle.goal_moves.specs.declared.active.Active.{Active}
use Rattle.goal_moves.specs.Moves.{called, goal_items, IsReady}
use Rattle.goal_moves.specs.declared.term_control.Named.{Named}
use Rattle.goal_moves.specs.declared.term_control.Named.TheVariants as N

-- places alone were added
pub record Grew (old new : Path) : Type 0 where
  pub others : new ≡ record old { store = new.store }
  pub grows : Grows (state_of old) (state_of new)
  pub next : (state_of new).next ≡ (state_of old).next
  pub store : IsStore (state_of new)

-- a record was opened that goes back to the state it was opened in
pub record OpenedHere (old new : Path) (kind : ChoiceKind) (parent ppc : ℕ) (setting : Setting) (depth : ℕ) : Type 0 where
  pub mark : Mark
  pub is_mark : IsMark mark (state_of old)
  pub at_mark : state_at mark (state_of old) ≡ state_of old
  pub opened : Opened old new kind mark parent ppc setting depth

-- the goal that is activated, and what it does
abbrev pub goal_at : Path → Active → Goal ℕ
goal_at p a = record { tree = tree_at (state_of p) a.goal; env = env_of a.setting; reach = a.setting.depth }

abbrev pub activation : (b : CompiledProgram) → Path → Active → Activation ℕ
activation b p a =
    (language_of b).activate a.node (goal_at p a) (items_here b p a.rest.f a.rest.pc) (world_here b p) (program_of (linked b)).clauses

-- a term as the name of a module
abbrev pub IsNamed : State → Result ℕ (Tree ℕ) → Named → Type 0
IsNamed s r (N.Module m) = r ≡ Ok m.0
IsNamed s r (N.Ball at) = IsRef s at × (r ≡ Err (tree_at s at))

-- a term that is no atom, where one is needed
abbrev pub no_atom : Naming ℕ → Tree ℕ → ℕ → ℕ → Result ℕ (Tree ℕ)
no_atom n t f k = Err (fault_tree n (type_fault E.Atom t) f k)

-- the goal runs what a term was taken for in a setting, or throws the ball of its error
pub record Runs (b : CompiledProgram) (p : Path) (a : Active) (setting : Setting) (c : Called) : Type 0 where
  pub taken : Result (Tree ℕ) (Tree ℕ)
  pub is : IsCalled (state_of p) taken c
  pub act : activation b p a ≡ unless_raised taken (items_here b p a.rest.f a.rest.pc) (λ t. node a.node (on a.node (world_here b p) (flat (naming b) t (env_of setting) (a.node + 1) ++ items_here b p a.rest.f a.rest.pc) ∷ []))
  pub depth : setting.depth ≡ a.node + 1
  pub base : setting.base ≡ a.setting.base

-- a goal, then a cut of its alternatives, and then what follows
abbrev pub committing : (b : CompiledProgram) → Path → Active → Ref → Items ℕ → Items ℕ
committing b p a body after = flat (naming b) (tree_at (state_of p) body) (argument_place (env_of a.setting)) (a.node + 1) ++ (Cut a.node ∷ after)

-- a condition, a cut of its alternatives, the goals behind the arrow, and then what follows
abbrev pub condition_items : (b : CompiledProgram) → Path → Active → Ref → Ref → Items ℕ → Items ℕ
condition_items b p a condition «then» after =
    flat (naming b) (tree_at (state_of p) condition) (env_of a.setting) (a.node + 1)
    ++ (Cut a.node ∷ (flat (naming b) (tree_at (state_of p) «then») (env_of a.setting) a.setting.depth ++ after))

-- the goal of an instruction was put into the store, and is activated where it stood
pub record GoalHere (b : CompiledProgram) (old new : Path) (node : ℕ) (a : Active) : Type 0 where
  pub ready : IsReady b new a
  pub same : (left : ℕ) → called b new a.node (goal_items b new a) left ≡ called b old node (items_here b old old.f old.pc) left
  pub depth : new.depth ≡ old.depth
  pub width : new.width ≡ old.width
  pub choices : new.choices ≡ old.choices
