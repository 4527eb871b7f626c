use Rattle.std.proofs.Common.{◌≡◌, reverse}
use Rattle.pl_terms.specs.Order.{tree_cmp}
use Rattle.pl_terms.specs.CellOrder.{name_cmp}
use Rattle.pl_unify.specs.State.{tree_at}
use Rattle.pl_builtins.specs.Ordered.{PairsOk, pairs_cmp, left_size}
use Rattle.pl_builtins.proofs.order.standard_order.Given as goal

abbrev pub invariant-loop-p : goal.invariant-loop-p
invariant-loop-p l = record {
  ok : PairsOk l.store.state (reverse l.work.items);
  same : pairs_cmp l.store.state l.names (reverse l.work.items) ≡ tree_cmp (name_cmp l.names) (tree_at l.store.state l.fn.left) (tree_at l.store.state l.fn.right);
}

abbrev pub decreases-loop-p : goal.decreases-loop-p
decreases-loop-p l = left_size l.store.state (reverse l.work.items)
