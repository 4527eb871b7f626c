-- Steps of a path that activate no goal.
use Rattle.std.specs.Prelude.{◌≡◌, ℕ}
use Rattle.solver_model.specs.Configurations.{Turns}
use Rattle.goal_state.specs.declared.compiled.CompiledProgram.{CompiledProgram}
use Rattle.goal_state.specs.declared.path.Path.{Path}
use Rattle.goal_state.specs.Denotation.{language_of, point_here, search_at}
use Rattle.goal_state.specs.Well.{IsWell}

-- a path goes on from where it stands to another place, in a node of the same depth
pub record Walked (b : CompiledProgram) (old new : Path) : Type 0 where
  pub well : IsWell b new
  pub depth : new.depth ≡ old.depth
  pub width : new.width ≡ old.width
  pub goes : (left : ℕ) → Turns (language_of b) (search_at b old (point_here b old) left) (search_at b new (point_here b new) left)
