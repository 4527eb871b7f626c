use Rattle.std.proofs.Common.{◌≡◌, ◌≤◌, ◌+◌, ◌-◌, max}
use Rattle.pl_unify.specs.State.{Grows}
use Rattle.pl_unify.proofs.store.Store.make_variable.Given as goal

abbrev pub invariant-loop-self : goal.invariant-loop-self
invariant-loop-self l = record {
  grows : Grows l.initial.self.state l.self.state;
  cells : l.self.state.cells ≡ l.initial.self.state.cells;
  few : l.self.state.next ≤ max (l.n + 1) l.initial.self.state.next;
  more : l.initial.self.state.next ≤ l.self.state.next;
}

abbrev pub decreases-loop-self : goal.decreases-loop-self
decreases-loop-self l = (l.n + 1) - l.self.state.next
