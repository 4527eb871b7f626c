-- Moves one after another.
use Rattle.std.proofs.Common.{◌≡◌, ℕ, ◌≤◌, ◌∙◌, arith}
use Rattle.solver_model.specs.Configurations.{Configuration, Turns}
use Rattle.solver_model.proofs.TurnLaws.{turns_then}
use Rattle.goal_state.specs.declared.compiled.CompiledProgram.{CompiledProgram}
use Rattle.goal_state.specs.declared.path.Path.{Path}
use Rattle.goal_state.specs.Denotation.{language_of, point_here, search_at}
use Rattle.solver_model.specs.Search.{Over, Failed, Halted, Thrown}
use Rattle.goal_moves.specs.declared.going.Going.{Going}
use Rattle.goal_moves.specs.declared.going.Going.TheVariants.{On, Fails, Halts, Uncaught}
use Rattle.goal_moves.specs.Moves.{Stays, Moved}

pub stays_after : (b : CompiledProgram) (p : Path) (left : ℕ) (x y : Configuration (language_of b)) (g : Going) → Turns (language_of b) x y → Stays b (Turns (language_of b) y) p left g → Stays b (Turns (language_of b) x) p left g
stays_after b p left x y On one two = turns_then (language_of b) x y (search_at b p (point_here b p) left) one two
stays_after b p left x y Fails one two = turns_then (language_of b) x y (search_at b p (Over Failed) left) one two
stays_after b p left x y (Halts z) one two = turns_then (language_of b) x y (search_at b p (Over (Halted z)) left) one two
stays_after b p left x y (Uncaught t) one two = (two.0, two.1, turns_then (language_of b) x y (search_at b p (Over (Thrown t.value two.0)) left) one two.2)

-- a search turned to where a move begins
pub moved_after : (b : CompiledProgram) (p q r : Path) (x y : ℕ → Configuration (language_of b)) (g : Going) → q.depth ≤ p.depth → q.width ≡ p.width → ((left : ℕ) → Turns (language_of b) (x left) (y left)) → Moved b q r y g → Moved b p r x g
moved_after b p q r x y g low width turns h = record {
  well = h.well;
  low = let k = h.low in omega (arith, k, low);
  width = h.width ∙ width;
  goes = λ left. stays_after b r left (x left) (y left) g (turns left) (h.goes left);
}
