use Rattle.std.proofs.Common.{◌≤◌, length, drop, reverse}
use Rattle.goal_state.specs.Well.{floor_of}
use Rattle.goal_state.specs.declared.compiled.CompiledProgram.{CompiledProgram}
use Rattle.goal_moves.proofs.EnterLaws.{EnteredGoals}
use Rattle.goal_moves.proofs.enter.enter_all.Given as goal

abbrev pub invariant-loop-left : goal.invariant-loop-left
invariant-loop-left l = record {
  within : l.left ≤ length l.goals;
  place : l.at.f ≤ length l.path.frames;
  floor : floor_of (reverse l.path.choices.items) ≤ length l.path.frames;
  entered : (b : CompiledProgram) → EnteredGoals b l.initial.path l.path l.setting l.fn.rest l.at (drop l.left l.goals);
}

abbrev pub decreases-loop-left : goal.decreases-loop-left
decreases-loop-left l = l.left
