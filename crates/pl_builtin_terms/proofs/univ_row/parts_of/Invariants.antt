use Rattle.std.proofs.Common.{◌≡◌, ◌≤◌}
use Rattle.pl_terms.specs.Trees.{back}
use Rattle.pl_unify.specs.State.{IsRef, Grows, tree_at}
use Rattle.builtin_model.specs.Lists.{listed}
use Rattle.pl_builtin_terms.specs.Walk.{arguments_of}
use Rattle.pl_builtin_terms.specs.Items.{list_from}
use Rattle.pl_builtin_terms.proofs.univ_row.parts_of.Given as goal

abbrev pub invariant-loop-left : goal.invariant-loop-left
invariant-loop-left l = record {
  few : l.left ≤ l.count;
  grows : Grows l.initial.store.state l.store.state;
  next : l.store.state.next ≡ l.initial.store.state.next;
  place : IsRef l.store.state l.parts;
  tree : tree_at l.store.state l.parts ≡ list_from l.symbols.nil.0 l.symbols.dot.0 (listed (back l.left (arguments_of (tree_at l.initial.store.state l.term))));
}

abbrev pub decreases-loop-left : goal.decreases-loop-left
decreases-loop-left l = l.left
