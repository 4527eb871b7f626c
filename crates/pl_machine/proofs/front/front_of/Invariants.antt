use Rattle.goal_state.specs.Well.{IsWell}
use Rattle.pl_machine.proofs.FrontLaws.{Placed}
use Rattle.pl_machine.proofs.front.front_of.Given as goal

abbrev pub invariant-loop-front : goal.invariant-loop-front
invariant-loop-front l = record {
  well : IsWell l.compiled l.path;
  placed : Placed l.compiled l.initial.path l.path;
}

abbrev pub decreases-loop-front : goal.decreases-loop-front
decreases-loop-front l = l.path.f
