use Rattle.std.proofs.Common.{◌≡◌, ℕ, take, map, length}
use Rattle.pl_unify.specs.Prefix.{listed}
use Rattle.pl_unify.specs.Making.{AreRefs}
use Rattle.pl_unify.specs.State.{Grows, tree_at}
use Rattle.builtin_model.specs.Naming.{Naming}
use Rattle.goal_model.specs.Environments.{qualified}
use Rattle.mod_meta.specs.Qualified.{IsColon, arguments_of}
use Rattle.mod_meta.proofs.goals.arguments.Given as goal

abbrev pub invariant-arguments : goal.invariant-arguments
invariant-arguments l = record {
  grows : Grows l.initial.store.state l.store.state;
  next : l.store.state.next ≡ l.initial.store.state.next;
  count : length l.args.items ≡ l.k;
  places : AreRefs l.store.state l.args.items;
  trees : (n : Naming ℕ) → IsColon n l.colon.0
      → map (tree_at l.store.state) l.args.items ≡ take l.k (listed (qualified n l.modes l.fn.context.0 (arguments_of (tree_at l.initial.store.state l.goal))));
}
