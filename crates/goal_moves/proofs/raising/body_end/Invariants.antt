use Rattle.std.proofs.Common.{◌≡◌, ℕ}
use Rattle.pl_unify.specs.State.{State}
use Rattle.solver_model.specs.Search.{pops}
use Rattle.goal_model.specs.Table.{Items}
use Rattle.goal_code.specs.Continuations.{items_from}
use Rattle.goal_state.specs.Frames.{running}
use Rattle.goal_state.specs.Denotation.{bodies}
use Rattle.goal_moves.proofs.raising.body_end.Given as goal

abbrev pub invariant-loop-found : goal.invariant-loop-found
invariant-loop-found l = (s : State) (outer : ℕ → Items ℕ) → pops (items_from (running (bodies l.compiled) s l.setting) (outer l.after) outer l.fn.start) ≡ pops (items_from (running (bodies l.compiled) s l.setting) (outer l.after) outer l.pc)

abbrev pub decreases-loop-found : goal.decreases-loop-found
decreases-loop-found l = l.pc
