-- What stands first on a path.
use Rattle.std.specs.Prelude.{◌≡◌, ℕ, ◌≤◌, [], ◌∷◌, length}
use Rattle.pl_unify.specs.State.{IsRef}
use Rattle.solver_model.specs.Search.{Call, Cut, Pop, Fail, At, PointOf}
use Rattle.goal_model.specs.Bodies.{Goal}
use Rattle.goal_model.specs.Table.{Items}
use Rattle.goal_state.specs.declared.compiled.CompiledProgram.{CompiledProgram}
use Rattle.goal_state.specs.declared.path.Path.{Path}
use Rattle.goal_state.specs.Denotation.{language_of, state_of, items_here, world_here, point_here}
use Rattle.goal_moves.specs.declared.standing.Stand.{Stand}
use Rattle.goal_moves.specs.declared.standing.Stand.TheVariants as S
use Rattle.goal_moves.specs.Moves.{IsCode, goal_items}
use Rattle.pl_machine.specs.declared.front.Front.{Front}
use Rattle.pl_machine.specs.declared.front.Front.TheVariants as F

-- a goal stands first on a path
abbrev pub IsFirst : CompiledProgram → Path → Stand → Type 0
IsFirst b p (S.Code c st) = IsCode b p c st
IsFirst b p (S.Term goal st rest) = IsRef (state_of p) goal × (rest.f ≤ length p.frames) × (st.base ≤ (state_of p).next)

-- where a search stands before what stands first on a path
abbrev pub first_at : (b : CompiledProgram) → Path → Stand → PointOf (language_of b)
first_at b p (S.Code c st) = point_here b p
first_at b p (S.Term goal st rest) =
    At (record { depth = p.depth; items = goal_items b p (record { goal = goal; setting = st; rest = rest; node = p.depth }); world = world_here b p })

-- the items of a path begin with a goal
pub record CallsFirst (b : CompiledProgram) (p : Path) : Type 0 where
  pub goal : Goal ℕ
  pub rest : Items ℕ
  pub items : items_here b p p.f p.pc ≡ Call goal ∷ rest

-- what stands first on a path
abbrev pub HasFront : CompiledProgram → Path → Front → Type 0
HasFront b p (F.Goal stand) = IsFirst b p stand × CallsFirst b p × (first_at b p stand ≡ point_here b p)
HasFront b p (F.Cut depth rest) = items_here b p p.f p.pc ≡ Cut depth ∷ items_here b p rest.f rest.pc
HasFront b p (F.Exit depth rest) = items_here b p p.f p.pc ≡ Pop depth ∷ items_here b p rest.f rest.pc
HasFront b p F.Fail = (rest : Items ℕ) × (items_here b p p.f p.pc ≡ Fail ∷ rest)
HasFront b p F.Nothing = items_here b p p.f p.pc ≡ []
