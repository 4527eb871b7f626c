-- What the moves of a run promise.
use Rattle.std.specs.Prelude.{◌≡◌, ℕ, suc, ◌+◌, ◌≤◌, List, [], ◌∷◌, ◌++◌, length, map, reverse, Some, true}
use Rattle.pl_terms.specs.Trees.{Tree}
use Rattle.pl_unify.specs.State.{State, tree_at, IsRef}
use Rattle.solver_model.specs.Search.{Call, At, Over, Failed, Thrown, Halted, Tries, PointOf, FrameOf}
use Rattle.solver_model.specs.Configurations.{Configuration, Turns, Tells}
use Rattle.goal_model.specs.Table.{Items, resolves, shown}
use Rattle.goal_code.specs.Runs.{instruction_at, is_goal}
use Rattle.goal_code.specs.declared.instruction.Instruction.{Instruction}
use Rattle.pl_store.specs.Runs.{program_of}
use Rattle.goal_state.specs.Frames.{env_of, place_get}
use Rattle.goal_state.specs.declared.frames.Setting.{Setting}
use Rattle.goal_state.specs.declared.frames.Part.{Part}
use Rattle.goal_state.specs.declared.frames.Part.TheVariants as P
use Rattle.goal_state.specs.declared.choice.Choice.{Choice}
use Rattle.goal_state.specs.declared.compiled.CompiledProgram.{CompiledProgram}
use Rattle.goal_state.specs.declared.path.Path.{Path}
use Rattle.goal_state.specs.Denotation.{linked, language_of, bodies, clauses_on, state_of, items_here, world_here, point_here, frames_on, search_at}
use Rattle.goal_state.specs.Well.{IsWell, IsWellWith, IsGoalOf}
use Rattle.goal_moves.specs.declared.active.Rest.{Rest}
use Rattle.goal_moves.specs.declared.active.Active.{Active}
use Rattle.goal_moves.specs.declared.going.Going.{Going}
use Rattle.goal_moves.specs.declared.going.Going.TheVariants.{On, Fails, Halts, Uncaught}
use Rattle.goal_moves.specs.declared.procedures.Attempt.{Attempt}

-- ---- configurations

module _ (b : CompiledProgram) where
  -- a search on a path in front of records, the newest first, with so many steps left
  abbrev pub search_with : Path → PointOf (language_of b) → List (FrameOf (language_of b)) → ℕ → Configuration (language_of b)
  search_with p point frames left = record { point = point; left = left; clauses = (program_of (linked b)).clauses; frames = frames }

  -- the configuration of a path after a move that ends so
  abbrev pub Stays : (Configuration (language_of b) → Type 0) → Path → ℕ → Going → Type 0
  Stays R p left On = R (search_at b p (point_here b p) left)
  Stays R p left Fails = R (search_at b p (Over Failed) left)
  Stays R p left (Halts z) = R (search_at b p (Over (Halted z)) left)
  Stays R p left (Uncaught t) = (active : List ℕ) × (p.choices.items ≡ []) × R (search_at b p (Over (Thrown t.value active)) left)

  -- a configuration turns to where a path stands, whatever the steps left
  abbrev pub Leads : (ℕ → Configuration (language_of b)) → Path → Going → Type 0
  Leads x p g = (left : ℕ) → Stays (Turns (language_of b) (x left)) p left g

  -- the same, where these bytes are written
  abbrev pub Shows : List ℕ → (ℕ → Configuration (language_of b)) → Path → Going → Type 0
  Shows bytes x p g = (left : ℕ) → Stays (Tells (language_of b) (shown bytes) (x left)) p left g

  -- the item of a goal that is activated, and what follows it
  abbrev pub goal_items : Path → Active → Items ℕ
  goal_items p a = Call (record { tree = tree_at (state_of p) a.goal; env = env_of a.setting; reach = a.setting.depth }) ∷ items_here b p a.rest.f a.rest.pc

  -- these items stand first in a node of this depth, with one step more left
  abbrev pub called : Path → ℕ → Items ℕ → ℕ → Configuration (language_of b)
  called p node items left = search_at b p (At (record { depth = node; items = items; world = world_here b p })) (suc left)

  -- a ball is thrown where these items would have followed
  abbrev pub thrown : Path → Tree ℕ → List ℕ → ℕ → Configuration (language_of b)
  thrown p ball active left = search_at b p (Over (Thrown ball active)) left

  -- the clauses of a goal are tried, from one on
  abbrev pub tried : Path → Attempt → ℕ → ℕ → Configuration (language_of b)
  tried p a clause left = search_with p (Over Failed) (Tries a.setting.depth (map (resolves (record {
    depth = a.setting.depth;
    goal = tree_at (state_of p) a.goal;
    env = env_of a.setting;
    rest = items_here b p a.rest.f a.rest.pc;
    world = world_here b p;
  })) (clauses_on (linked b) clause)) ∷ frames_on b p (reverse p.choices.items)) left

  -- a record that was taken off is taken up
  abbrev pub resumed : Path → Choice → PointOf (language_of b) → ℕ → Configuration (language_of b)
  resumed p c point left = search_with p point (frames_on b p (c ∷ reverse p.choices.items)) left

-- ---- what is asked of a path, and what is promised

-- a path on which a goal is being activated
pub record IsReady (b : CompiledProgram) (p : Path) (a : Active) : Type 0 where
  pub well : IsWellWith b p (reverse p.choices.items) a.node
  pub depth : p.depth ≡ a.node + 1
  pub goal : IsRef (state_of p) a.goal
  pub rest : a.rest.f ≤ length p.frames
  pub base : a.setting.base ≤ (state_of p).next

-- a path on which a clause is tried for a goal
pub record IsTrying (b : CompiledProgram) (p : Path) (a : Attempt) (clause : ℕ) : Type 0 where
  pub well : IsWellWith b p (reverse p.choices.items) a.setting.depth
  pub depth : p.depth ≡ a.setting.depth + 1
  pub goal : IsRef (state_of p) a.goal
  pub rest : a.rest.f ≤ length p.frames
  pub base : a.setting.base ≤ (state_of p).next
  pub fits : IsGoalOf (linked b) clause (tree_at (state_of p) a.goal)

-- a move from a configuration leads to where the path stands
pub record Moved (b : CompiledProgram) (old new : Path) (x : ℕ → Configuration (language_of b)) (g : Going) : Type 0 where
  pub well : IsWell b new
  pub low : new.depth ≤ old.depth
  pub width : new.width ≡ old.width
  pub goes : Leads b x new g

-- frames were put before what is to be run from a place on: what is to be run from another place now are these items
pub record Entered (b : CompiledProgram) (old new : Path) (rest at : Rest) (items : Items ℕ) : Type 0 where
  pub others : new ≡ record old { frames = new.frames; f = new.f; pc = new.pc }
  pub within : rest.f ≤ length new.frames
  pub at_within : at.f ≤ length new.frames
  pub above : rest.f ≤ at.f
  pub goes : items_here b new at.f at.pc ≡ items
  pub older : (f pc : ℕ) → f ≤ rest.f → items_here b new f pc ≡ items_here b old f pc
  pub records : (d : ℕ) → IsWellWith b old (reverse old.choices.items) d → frames_on b new (reverse new.choices.items) ≡ frames_on b old (reverse old.choices.items)
  pub well : (d : ℕ) → IsWellWith b old (reverse old.choices.items) d → IsWellWith b new (reverse new.choices.items) d

-- a part that is one item, with places of the store
abbrev pub IsOne : State → Part → Type 0
IsOne s (P.Goal r) = IsRef s r
IsOne s P.Cut = Unit {0}
IsOne s P.Exit = Unit {0}
IsOne s P.Fail = Unit {0}
IsOne s part = ⊥

-- an answer of a nested search
abbrev pub answering : (b : CompiledProgram) → Path → ℕ → Configuration (language_of b)
answering b p left = search_at b p (At (record { depth = p.depth; items = []; world = world_here b p })) left

-- where a path stands
abbrev pub here : Path → Rest
here p = record { f = p.f; pc = p.pc }

-- the goal of an instruction stands first in a frame that runs the body of a clause
pub record IsCode (b : CompiledProgram) (p : Path) (c : Instruction) (st : Setting) : Type 0 where
  pub parent : ℕ
  pub ppc : ℕ
  pub frame : place_get (reverse p.frames) p.f ≡ Some (record { parent = parent; ppc = ppc; part = P.Body; setting = st })
  pub code : instruction_at (bodies b st.clause).code p.pc ≡ Some c
  pub goal : is_goal c ≡ true

-- a goal was activated, and these bytes were written
pub record Activated (b : CompiledProgram) (old new : Path) (x : ℕ → Configuration (language_of b)) (before after : List ℕ) (g : Going) : Type 0 where
  pub bytes : List ℕ
  pub text : after ≡ before ++ bytes
  pub well : IsWell b new
  pub low : new.depth ≤ old.depth
  pub width : new.width ≡ old.width
  pub goes : Shows b bytes x new g
