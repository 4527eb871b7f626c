-- Moves that write nothing.
use Rattle.std.proofs.Common.{◌≡◌, ℕ, List, [], ◌∷◌, ◌++◌, refl, ap}
use Rattle.solver_model.specs.Search.{Over, Failed, Halted, Thrown}
use Rattle.solver_model.specs.Configurations.{Configuration, Turns, Tells}
use Rattle.solver_model.proofs.TellLaws.{tells_of}
use Rattle.goal_model.specs.Table.{shown}
use Rattle.goal_state.specs.declared.compiled.CompiledProgram.{CompiledProgram}
use Rattle.goal_state.specs.declared.path.Path.{Path}
use Rattle.goal_state.specs.Denotation.{language_of, point_here, search_at}
use Rattle.goal_moves.specs.declared.going.Going.{Going}
use Rattle.goal_moves.specs.declared.going.Going.TheVariants.{On, Fails, Halts, Uncaught}
use Rattle.goal_moves.specs.Moves.{Stays, Moved, Activated}

silent : (b : CompiledProgram) (x : Configuration (language_of b)) (p : Path) (left : ℕ) (g : Going) → Stays b (Turns (language_of b) x) p left g → Stays b (Tells (language_of b) (shown []) x) p left g
silent b x p left On t = tells_of (language_of b) x (search_at b p (point_here b p) left) t
silent b x p left Fails t = tells_of (language_of b) x (search_at b p (Over Failed) left) t
silent b x p left (Halts z) t = tells_of (language_of b) x (search_at b p (Over (Halted z)) left) t
silent b x p left (Uncaught ball) t = (t.0, t.1, tells_of (language_of b) x (search_at b p (Over (Thrown ball.value t.0)) left) t.2)

no_bytes : (text : List ℕ) → text ≡ text ++ []
no_bytes [] = refl
no_bytes (x ∷ xs) = ap (λ l. x ∷ l) (no_bytes xs)

-- a move that writes nothing
pub activated : (b : CompiledProgram) (old new : Path) (x : ℕ → Configuration (language_of b)) (text : List ℕ) (g : Going) → Moved b old new x g → Activated b old new x text text g
activated b old new x text g m = record {
  bytes = [];
  text = no_bytes text;
  well = m.well;
  low = m.low;
  width = m.width;
  goes = λ left. silent b (x left) new left g (m.goes left);
}
