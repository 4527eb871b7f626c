use Rattle.std.proofs.Common.{◌≡◌, reverse, map, Ok, length}
use Rattle.pl_unify.specs.State.{tree_at, Grows, IsRef}
use Rattle.pl_unify.specs.Making.{AreRefs}
use Rattle.goal_constructs.specs.Calling.{wrapped}
use Rattle.goal_constructs.proofs.constructs.Constructs.wrap.Given as goal

abbrev pub invariant-loop-front : goal.invariant-loop-front
invariant-loop-front l = record {
  grows : Grows l.initial.store.state l.store.state;
  next : l.store.state.next ≡ l.initial.store.state.next;
  place : IsRef l.store.state l.made;
  modules : AreRefs l.store.state (reverse l.modules.items);
  same : wrapped l.self.names.colon.0 (map (tree_at l.initial.store.state) (reverse l.initial.modules.items)) (Ok (tree_at l.initial.store.state l.initial.made))
      ≡ wrapped l.self.names.colon.0 (map (tree_at l.store.state) (reverse l.modules.items)) (Ok (tree_at l.store.state l.made));
}

abbrev pub decreases-loop-front : goal.decreases-loop-front
decreases-loop-front l = length l.modules.items
