use Rattle.std.proofs.Common.{◌≡◌, map, take}
use Rattle.pl_unify.specs.State.{Grows}
use Rattle.pl_machine.proofs.LineLaws.{bound_as}
use Rattle.pl_machine.proofs.line.line_of.Given as goal

abbrev pub invariant-loop-variable : goal.invariant-loop-variable
invariant-loop-variable l = record {
  grows : Grows l.initial.store.state l.store.state;
  next : l.store.state.next ≡ l.initial.store.state.next;
  answer : l.answer ≡ map (bound_as l.initial.store.state) (take l.variable-index l.variables);
}
