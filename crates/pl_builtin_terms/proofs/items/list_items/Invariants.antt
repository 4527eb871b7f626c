use Rattle.std.proofs.Common.{◌≡◌, map}
use Rattle.unifier_model.specs.Substitution.{size}
use Rattle.pl_unify.specs.State.{IsRef, tree_at}
use Rattle.pl_unify.specs.Making.{AreRefs}
use Rattle.builtin_model.specs.Naming.{by_numbers}
use Rattle.builtin_model.specs.Lists.{listing}
use Rattle.pl_builtin_terms.specs.Items.{all_before}
use Rattle.pl_builtin_terms.proofs.items.list_items.Given as goal

abbrev pub invariant-items : goal.invariant-items
invariant-items l = record {
  place : IsRef l.store.state l.rest;
  places : AreRefs l.store.state l.items.items;
  whole : listing (by_numbers l.names) (tree_at l.store.state l.fn.list) ≡ all_before (map (tree_at l.store.state) l.items.items) (listing (by_numbers l.names) (tree_at l.store.state l.rest));
}

abbrev pub decreases-items : goal.decreases-items
decreases-items l = size (tree_at l.store.state l.rest)
