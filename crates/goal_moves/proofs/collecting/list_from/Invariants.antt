use Rattle.std.proofs.Common.{◌≡◌, ◌≤◌, length, drop, map}
use Rattle.pl_unify.specs.State.{tree_at, IsRef, Grows}
use Rattle.builtin_model.specs.Lists.{list_tree}
use Rattle.goal_state.specs.Denotation.{naming}
use Rattle.goal_moves.proofs.collecting.list_from.Given as goal

abbrev pub invariant-loop-left : goal.invariant-loop-left
invariant-loop-left l = record {
  grows : Grows l.fn.store.state l.store.state;
  place : IsRef l.store.state l.list;
  tree : tree_at l.store.state l.list ≡ list_tree (naming l.compiled) (map (tree_at l.fn.store.state) (drop l.left l.places.items));
  next : l.store.state.next ≡ l.fn.store.state.next;
  few : l.left ≤ length l.places.items;
}

abbrev pub decreases-loop-left : goal.decreases-loop-left
decreases-loop-left l = l.left
