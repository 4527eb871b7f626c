use Rattle.std.proofs.Common.{◌≡◌, reverse, map, nat_eq}
use Rattle.indexmap.specs.IndexSet.{insert_all}
use Rattle.pl_terms.specs.Trees.{var}
use Rattle.pl_terms.specs.Occurrence.{variables}
use Rattle.pl_unify.specs.State.{tree_at}
use Rattle.pl_unify.specs.Making.{AreRefs}
use Rattle.pl_builtin_terms.specs.Walk.{occurrences_at, nodes_at}
use Rattle.pl_builtin_terms.proofs.variables.variable_places.Given as goal

abbrev pub invariant-variables : goal.invariant-variables
invariant-variables l = record {
  rest : AreRefs l.store.state (reverse l.work.items);
  places : AreRefs l.store.state l.places.items;
  trees : map (tree_at l.store.state) l.places.items ≡ map var l.seen.keys;
  whole : insert_all nat_eq l.seen.keys (occurrences_at l.store.state (reverse l.work.items)) ≡ variables (tree_at l.store.state l.fn.term);
}

abbrev pub decreases-variables : goal.decreases-variables
decreases-variables l = nodes_at l.store.state (reverse l.work.items)
