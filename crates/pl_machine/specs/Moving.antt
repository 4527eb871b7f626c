-- What a move does.
use Rattle.std.specs.Prelude.{◌≡◌, ℕ, ◌+◌, ◌<◌, max, Bool, false, true, if◌then◌else◌, List, length}
use Rattle.solver_model.specs.Search.{PointOf}
use Rattle.goal_state.specs.Denotation.{language_of, point_here, search_at}
use Rattle.goal_moves.specs.Untried.{leaves_untried}
use Rattle.pl_machine.specs.declared.machine.Machine.{Machine}
use Rattle.pl_machine.specs.declared.moves.Progress.{Progress}
use Rattle.pl_machine.specs.declared.moves.Progress.TheVariants as P
use Rattle.pl_machine.specs.Machine.{GoalFirst}

-- a move that begins here activates a goal
abbrev pub Activates : Machine → Type 0
Activates m = GoalFirst m × (0 < m.left)

-- a step was taken exactly where a goal was activated
pub record Stepped (old new : Machine) : Type 0 where
  pub activated : Activates old → new.left + 1 ≡ old.left
  pub none : (Activates old → ⊥) → new.left ≡ old.left

-- whether the goal that stands first leaves something untried in its node when its first alternative was taken
abbrev pub leaves_at : (m : Machine) → PointOf (language_of m.compiled) → Bool
leaves_at m point = leaves_untried m.compiled (search_at m.compiled m.path point m.left)

abbrev pub first_leaves : Machine → Bool
first_leaves m = leaves_at m (point_here m.compiled m.path)

-- the peak after an activation: one more than the records before it, where it left something untried
abbrev pub noted : ℕ → ℕ → Bool → ℕ
noted peak before leaves = if leaves then max peak (before + 1) else peak

-- the most records that there were is noted where a goal was activated, and there alone
pub record Peaked (old new : Machine) : Type 0 where
  pub activated : Activates old → new.peak ≡ noted old.peak (length old.path.choices.items) (first_leaves old)
  pub none : (Activates old → ⊥) → new.peak ≡ old.peak

-- what stands after a move
abbrev pub Stopped : Machine → List ℕ → List ℕ → Progress → Type 0
Stopped new before after P.Goal = Activates new × (new.over ≡ false)
Stopped new before after P.Shown = (length before < length after) × (new.over ≡ false)
Stopped new before after (P.Ended e) = new.over ≡ true
