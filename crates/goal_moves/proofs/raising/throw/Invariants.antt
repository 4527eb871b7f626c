use Rattle.std.proofs.Common.{vec_len}
use Rattle.goal_moves.specs.Moves.{thrown}
use Rattle.goal_moves.specs.Throwing.{exits_here}
use Rattle.goal_moves.proofs.OutwardLaws.{Outward}
use Rattle.goal_moves.proofs.raising.throw.Given as goal

abbrev pub invariant-loop-choice : goal.invariant-loop-choice
invariant-loop-choice l = Outward l.compiled l.initial.path l.path l.ball l.at (thrown l.compiled l.initial.path l.fn.term (exits_here l.compiled l.initial.path l.fn.rest))

abbrev pub decreases-loop-choice : goal.decreases-loop-choice
decreases-loop-choice l = vec_len l.path.choices
