use Rattle.std.proofs.Common.{◌≡◌, ℕ, ◌≤◌, vec_len}
use Rattle.solver_model.specs.Search.{Over, Failed}
use Rattle.solver_model.specs.Configurations.{Turns}
use Rattle.goal_state.specs.Denotation.{language_of, search_at}
use Rattle.goal_state.specs.Well.{IsWell}
use Rattle.goal_moves.proofs.backtracking.back.Given as goal

abbrev pub invariant-loop-choice : goal.invariant-loop-choice
invariant-loop-choice l = record {
  well : IsWell l.compiled l.path;
  low : l.path.depth ≤ l.initial.path.depth;
  width : l.path.width ≡ l.initial.path.width;
  goes : (left : ℕ) → Turns (language_of l.compiled) (search_at l.compiled l.initial.path (Over Failed) left) (search_at l.compiled l.path (Over Failed) left);
}

abbrev pub decreases-loop-choice : goal.decreases-loop-choice
decreases-loop-choice l = vec_len l.path.choices
