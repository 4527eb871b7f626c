use Rattle.pl_unify.specs.State.{IsRef}
use Rattle.test_store.proofs.tests.terms.sharing.Given as goal

abbrev pub invariant-loop : goal.invariant-loop
invariant-loop l = record {
  at : IsRef l.store.state l.at;
  x : IsRef l.store.state l.x;
  y : IsRef l.store.state l.y;
}
