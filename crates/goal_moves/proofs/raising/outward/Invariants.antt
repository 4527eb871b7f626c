use Rattle.goal_moves.proofs.ExitLaws.{Went}
use Rattle.goal_moves.proofs.raising.outward.Given as goal

abbrev pub invariant-loop-next : goal.invariant-loop-next
invariant-loop-next l = Went l.compiled l.path l.fn.from l.at l.depth

abbrev pub decreases-loop-next : goal.decreases-loop-next
decreases-loop-next l = l.at.f
