use Rattle.std.proofs.Common.{◌≡◌, ◌+◌, length, map}
use Rattle.pl_unify.specs.State.{Grows, tree_at}
use Rattle.pl_unify.specs.Making.{AreRefs}
use Rattle.builtin_model.specs.Lists.{variables_from}
use Rattle.pl_builtin_terms.proofs.functor_row.new_compound.Given as goal

abbrev pub invariant-arguments : goal.invariant-arguments
invariant-arguments l = record {
  grows : Grows l.initial.store.state l.store.state;
  next : l.store.state.next ≡ l.initial.store.state.next + l._i;
  count : length l.args.items ≡ l._i;
  places : AreRefs l.store.state l.args.items;
  trees : map (tree_at l.store.state) l.args.items ≡ variables_from l.initial.store.state.next l._i;
}
