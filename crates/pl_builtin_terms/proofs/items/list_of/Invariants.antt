use Rattle.std.proofs.Common.{◌≡◌, ◌≤◌, length, drop, map}
use Rattle.pl_unify.specs.State.{IsRef, Grows, tree_at}
use Rattle.pl_builtin_terms.specs.Items.{list_from}
use Rattle.pl_builtin_terms.proofs.items.list_of.Given as goal

abbrev pub invariant-loop-left : goal.invariant-loop-left
invariant-loop-left l = record {
  few : l.left ≤ length l.items;
  grows : Grows l.initial.store.state l.store.state;
  next : l.store.state.next ≡ l.initial.store.state.next;
  place : IsRef l.store.state l.list;
  tree : tree_at l.store.state l.list ≡ list_from l.symbols.nil.0 l.symbols.dot.0 (map (tree_at l.initial.store.state) (drop l.left l.items));
}

abbrev pub decreases-loop-left : goal.decreases-loop-left
decreases-loop-left l = l.left
