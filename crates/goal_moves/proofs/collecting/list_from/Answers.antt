use Rattle.std.proofs.Common.{◌∙◌, ap, sym, subst, arith, ◌-◌, map, ◌∷◌, []}
use Rattle.pl_unify.proofs.Loading.{Grows-trans}
use Rattle.goal_moves.proofs.CopyLaws.{listed_more, ref_in, refs_grown}
use Rattle.pl_unify.specs.State.{IsRef, tree_at}
use Rattle.pl_terms.specs.Trees.{comp}
use Rattle.pl_unify.specs.Prefix.{trees}
use Rattle.goal_moves.proofs.collecting.list_from.Goals as goal

pub compound-requires-clause-places : goal.compound-requires-clause-places
compound-requires-clause-places c =
    let inv = c.loop-left.invariant in
    let refs = refs_grown c.args.store.now.state c.loop-left.store.state c.args.places.now.items inv.grows c.requires.places in
    (subst (IsRef c.loop-left.store.state) (sym c.index.ensures) (ref_in c.loop-left.store.state c.args.places.now.items (c.loop-left.left - 1) _ refs (omega (arith, inv.few, c.loop-left-test.true))), (inv.place, tt))

pub loop-left-preserved : goal.loop-left-preserved
loop-left-preserved c =
    let inv = c.loop-left.invariant in
    record {
      grows = Grows-trans c.args.store.now.state c.loop-left.store.state c.compound.new.self.state inv.grows c.compound.ensures.grows;
      place = c.in_ok-list-2.ensures.place;
      tree = listed_more c.args.compiled.now c.requires.compiled c.args.store.now.state c.loop-left.store.state c.compound.new.self.state c.args.places.now.items c.loop-left.left _ c.index.result.now c.loop-left.list c.in_ok-list-2.list _ (omega (arith, c.loop-left-test.true)) inv.few c.requires.places c.index.ensures inv.grows inv.tree
          (c.in_ok-list-2.ensures.tree ∙ ap (λ g. comp g.dot.0 (trees (map (tree_at c.loop-left.store.state) (c.index.result.now ∷ c.loop-left.list ∷ [])))) c.names-names.ensures);
      next = c.compound.ensures.next ∙ inv.next;
      few = omega (arith, inv.few);
    }
