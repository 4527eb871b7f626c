use Rattle.std.proofs.Common.{◌≡◌, ◌≤◌, reverse}
use Rattle.pl_unify.specs.Making.{AreRefs}
use Rattle.pl_builtin_terms.specs.Walk.{occurrences_at, nodes_at}
use Rattle.pl_builtin_terms.proofs.variables.next_variable.Given as goal

abbrev pub invariant-places : goal.invariant-places
invariant-places l = record {
  places : AreRefs l.store.state (reverse l.work.items);
  occurrences : occurrences_at l.store.state (reverse l.work.items) ≡ occurrences_at l.store.state (reverse l.initial.work.items);
  nodes : nodes_at l.store.state (reverse l.work.items) ≤ nodes_at l.store.state (reverse l.initial.work.items);
}

abbrev pub decreases-places : goal.decreases-places
decreases-places l = nodes_at l.store.state (reverse l.work.items)
