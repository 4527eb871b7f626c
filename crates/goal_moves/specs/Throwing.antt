-- A ball on its way outward.
use Rattle.std.specs.Prelude.{◌≡◌, ℕ, ◌+◌, ◌<◌, ◌≤◌, List, ◌∷◌, ◌++◌, reverse, false}
use Rattle.pl_terms.specs.Trees.{Tree}
use Rattle.solver_model.specs.Search.{Over, Thrown, has, pops}
use Rattle.solver_model.specs.Configurations.{Configuration, Sane, Falling, Turns}
use Rattle.goal_state.specs.declared.choice.Choice.{Choice}
use Rattle.goal_state.specs.declared.compiled.CompiledProgram.{CompiledProgram}
use Rattle.goal_state.specs.declared.path.Path.{Path}
use Rattle.goal_state.specs.Denotation.{language_of, items_here, point_here, search_at, naming, state_of, setting_in}
use Rattle.goal_state.specs.Well.{IsWell}
use Rattle.goal_moves.specs.declared.active.Rest.{Rest}
use Rattle.goal_moves.specs.declared.raising.Way.{Way}
use Rattle.goal_moves.specs.declared.raising.Way.TheVariants as W
use Rattle.goal_moves.specs.declared.raising.Passing.{Passing}
use Rattle.goal_moves.specs.declared.raising.Passing.TheVariants as P
use Rattle.goal_moves.specs.Moves.{resumed, Entered, here}
use Rattle.pl_terms.specs.Occurrence.{canon}
use Rattle.pl_unify.specs.declared.word.Ref.{Ref}
use Rattle.pl_unify.specs.State.{State, tree_at}
use Rattle.goal_model.specs.Bodies.{flat}
use Rattle.goal_code.specs.BodyCode.{BodyCode}
use Rattle.goal_state.specs.Frames.{env_of, items_of, place_get}
use Rattle.goal_constructs.specs.declared.calling.Called.{Called}
use Rattle.goal_constructs.specs.declared.calling.Called.TheVariants as C

-- the exits of catches from a place on
abbrev pub exits_here : (b : CompiledProgram) → Path → Rest → List ℕ
exits_here b p at = pops (items_here b p at.f at.pc)

-- the same exits below a depth
abbrev pub Agrees : ℕ → List ℕ → List ℕ → Type 0
Agrees d xs ys = (k : ℕ) → k < d → has xs k ≡ has ys k

-- a search came to a ball, for which the exits from a place on are active
pub record Comes (b : CompiledProgram) (x : Configuration (language_of b)) (p : Path) (at : Rest) (to : List ℕ → Configuration (language_of b)) : Type 0 where
  pub active : List ℕ
  pub agrees : Agrees p.depth active (exits_here b p at)
  pub falls : Sane (language_of b) x → Falling (language_of b) (exits_here b p at)
  pub goes : Turns (language_of b) x (to active)

-- the ball is on its way out of the newest record
abbrev pub Throws : (b : CompiledProgram) → Configuration (language_of b) → Path → Tree ℕ → Rest → ℕ → Type 0
Throws b x p ball at left = Comes b x p at (λ active. search_at b p (Over (Thrown ball active)) left)

-- the same, where a record was taken off
abbrev pub Meets : (b : CompiledProgram) → Configuration (language_of b) → Path → Choice → Tree ℕ → Rest → ℕ → Type 0
Meets b x p c ball at left = Comes b x p at (λ active. resumed b p c (Over (Thrown ball active)) left)

-- one step outward over exits above a depth
abbrev pub Wends : (b : CompiledProgram) → Path → Rest → ℕ → Way → Type 0
Wends b p at depth (W.Down next) =
    (next.f < at.f) × Agrees (depth + 1) (exits_here b p at) (exits_here b p next) × (Falling (language_of b) (exits_here b p at) → Falling (language_of b) (exits_here b p next))
Wends b p at depth (W.Exit next) = exits_here b p at ≡ depth ∷ exits_here b p next
Wends b p at depth W.Past = Falling (language_of b) (exits_here b p at) → has (exits_here b p at) depth ≡ false

-- where the exits below a depth begin
pub record Leads (b : CompiledProgram) (p : Path) (at next : Rest) (depth : ℕ) : Type 0 where
  pub agrees : Agrees depth (exits_here b p at) (exits_here b p next)
  pub falls : Falling (language_of b) (exits_here b p at) → Falling (language_of b) (exits_here b p next)

-- the ball goes on as this one, from a place on
pub record Passed (b : CompiledProgram) (old new : Path) (c : Choice) (ball : Tree ℕ) (at : Rest) (other : Tree ℕ) (next : Rest) : Type 0 where
  pub well : IsWell b new
  pub low : new.depth ≤ old.depth
  pub width : new.width ≡ old.width
  pub choices : new.choices ≡ old.choices
  pub goes : (left : ℕ) (x : Configuration (language_of b)) → Meets b x old c ball at left → Throws b x new other next left

-- the ball is taken
pub record Taken (b : CompiledProgram) (old new : Path) (c : Choice) (ball : Tree ℕ) (at : Rest) : Type 0 where
  pub well : IsWell b new
  pub low : new.depth ≤ old.depth
  pub width : new.width ≡ old.width
  pub choices : new.choices ≡ old.choices
  pub goes : (left : ℕ) (x : Configuration (language_of b)) → Meets b x old c ball at left → Turns (language_of b) x (search_at b new (point_here b new) left)

-- what a record does with a ball
abbrev pub Hands : (b : CompiledProgram) → Path → Path → Choice → Tree ℕ → Rest → Passing → Type 0
Hands b old new c ball at P.Takes = Taken b old new c ball at
Hands b old new c ball at (P.Passes next) = Passed b old new c ball at ball next
Hands b old new c ball at (P.Raises other next) = Passed b old new c ball at other next

-- a place from which as much goes on as after the goal of a record's node
abbrev pub GoesOn : Path → Choice → Rest → Type 0
GoesOn p c at = (x : ℕ → BodyCode) (s : State) → items_of x s p.frames at.f at.pc ≡ items_of x s p.frames c.rest 0

-- the recovery of a catch goes on, or the ball of its error
pub record Recovered (b : CompiledProgram) (old new : Path) (c : Choice) (goal : Ref) : Type 0 where
  pub rest : Rest
  pub same : GoesOn old c rest
  pub entered : Entered b (record old { depth = c.depth + 1 }) new rest (here new) (flat (naming b) (tree_at (state_of old) goal) (env_of (setting_in (place_get (reverse old.frames) c.rest))) (c.depth + 1) ++ items_here b old rest.f rest.pc)

abbrev pub Recovers : (b : CompiledProgram) → Path → Path → Choice → Called → Passing → Type 0
Recovers b old new c (C.Goal goal) P.Takes = Recovered b old new c goal
Recovers b old new c (C.Ball place) (P.Raises other next) = (new ≡ record old { depth = c.depth }) × (other ≡ canon (tree_at (state_of old) place)) × GoesOn old c next
Recovers b old new c _ _ = ⊥
