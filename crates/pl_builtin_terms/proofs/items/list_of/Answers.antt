use Rattle.std.proofs.Common.{◌≡◌, ◌∙◌, ◌-◌, ap, map, arith, drop}
use Rattle.pl_unify.specs.State.{tree_at}
use Rattle.pl_unify.specs.Making.{AreRefs}
use Rattle.pl_unify.proofs.Compounds.{AreRefs-at}
use Rattle.pl_unify.proofs.Loading.{Grows-trans}
use Rattle.pl_builtin_terms.specs.Items.{list_from}
use Rattle.pl_builtin_terms.proofs.Walks.{AreRefs-grown, map-grown}
use Rattle.pl_builtin_terms.proofs.Lists.{list_more}
use Rattle.pl_builtin_terms.proofs.items.list_of.Goals as goal
use Rattle.pl_builtin_terms.proofs.items.list_of.Goals.{In_ok-list}

there : (c : In_ok-list) → AreRefs c.place_of_name.new.self.state c.args.items.now
there c = AreRefs-grown c.args.store.now.state c.place_of_name.new.self.state c.args.items.now c.place_of_name.ensures.grows c.requires

pub list_cell-requires : goal.list_cell-requires
list_cell-requires c =
    let at = AreRefs-at c.place_of_name.new.self.state c.args.items.now (c.loop-left.left - 1) (record { 0 = 0 }) (omega arith) (there (goal.at.list_cell-requires c).In_ok-list) in
    (omega (arith, at, c.loop-left.invariant.grows.extends.more_cells), c.loop-left.invariant.place)

pub loop-left-preserved : goal.loop-left-preserved
loop-left-preserved c = record {
  few = omega arith;
  grows = Grows-trans c.place_of_name.new.self.state c.loop-left.store.state c.list_cell.new.store.state c.loop-left.invariant.grows c.list_cell.ensures.grows;
  next = c.list_cell.ensures.next ∙ c.loop-left.invariant.next;
  place = c.in_ok-list-2.ensures.place;
  tree = list_more c.place_of_name.new.self.state c.loop-left.store.state c.args.symbols.nil.0 c.args.symbols.dot.0 (c.loop-left.left - 1) c.loop-left.left c.args.items.now (record { 0 = 0 }) c.loop-left.list _
      (omega arith) (omega arith) (there (goal.at.loop-left-preserved c).In_ok-list) c.loop-left.invariant.grows c.loop-left.invariant.tree c.in_ok-list-2.ensures.tree;
}

pub returns-clause-tree : goal.returns-clause-tree
returns-clause-tree c =
    let none : c.loop-left.left ≡ 0 = omega arith in
    c.loop-left.invariant.tree
    ∙ (ap (λ k. list_from c.args.symbols.nil.0 c.args.symbols.dot.0 (map (tree_at c.place_of_name.new.self.state) (drop k c.args.items.now))) none
    ∙ ap (list_from c.args.symbols.nil.0 c.args.symbols.dot.0) (map-grown c.args.store.now.state c.place_of_name.new.self.state c.args.items.now c.place_of_name.ensures.grows c.requires))
