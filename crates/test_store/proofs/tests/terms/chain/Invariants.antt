use Rattle.pl_unify.specs.State.{IsRef}
use Rattle.test_store.proofs.tests.terms.chain.Given as goal

abbrev pub invariant-loop : goal.invariant-loop
invariant-loop l = record {
  a : IsRef l.store.state l.a;
  b : IsRef l.store.state l.b;
  x : IsRef l.store.state l.x;
  y : IsRef l.store.state l.y;
}
