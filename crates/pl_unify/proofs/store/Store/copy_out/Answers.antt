use Rattle.std.proofs.Common.{◌≡◌, ◌∙◌, ◌++◌, ◌∷◌, [], ap, arith, sym, subst, All}
use Rattle.std.proofs.lemmas.List.Elements.{All-push}
use Rattle.std.proofs.lemmas.List.{append-nil, append_assoc, nil_from_length}
use Rattle.pl_terms.specs.declared.cell.Cell.TheVariants.{Comp}
use Rattle.pl_unify.specs.Prefix.{trees}
use Rattle.pl_terms.specs.Cells.{cells, all_cells, IsCell, IsTerm, tree_of}
use Rattle.pl_terms.specs.Forest.{tree_of-cells}
use Rattle.pl_terms.proofs.Whole.{IsTerm-cells}
use Rattle.pl_unify.specs.State.{tree_at}
use Rattle.pl_unify.specs.Stack.{stack}
use Rattle.pl_unify.proofs.Walk.{Opened, opened}
use Rattle.pl_unify.proofs.store.Store.copy_out.Goals as goal
use Rattle.pl_unify.proofs.store.Store.copy_out.Goals.{In_ok-push_span-in-Comp, In_default}

step : (c : In_ok-push_span-in-Comp) → Opened c.args.self.now.state c.loop-place.work.items c.push_span.new.work.items c.in-Comp.arity c.in-Comp.name
step c =
    opened c.args.self.now.state c.loop-place.work.items c.pop.new.self.items c.push_span.new.work.items c.in-Some.place c.in-Comp.arity c.in-Comp.first c.in-Comp.name
    c.in-Some.ensures.items c.in-Comp.ensures.shape c.in-Comp.ensures.within.0 c.in_ok-push_span-in-Comp.ensures c.loop-place.invariant.below

pub loop-place-smaller : goal.loop-place-smaller
loop-place-smaller c = (step c).smaller

pub loop-place-preserved : goal.loop-place-preserved
loop-place-preserved c = record {
  below = (step c).below;
  fine = subst (All IsCell) (sym c.in_ok-push-in-Comp.ensures.ok) (All-push IsCell c.loop-place.cells (Comp c.in-Comp.name c.in-Comp.arity) c.loop-place.invariant.fine c.in-Comp.ensures.within.1);
  whole =
      ap (λ b. b ++ all_cells (trees (stack c.args.self.now.state c.push_span.new.work.items))) c.in_ok-push-in-Comp.ensures.ok
      ∙ (append_assoc c.loop-place.cells (Comp c.in-Comp.name c.in-Comp.arity ∷ []) _
      ∙ (ap (λ r. c.loop-place.cells ++ r) (sym (step c).flat) ∙ c.loop-place.invariant.whole));
}

done : (c : In_default) → c.loop-place.cells ≡ cells (tree_at c.args.self.now.state c.args.at)
done c =
    let none : c.loop-place.work.items ≡ [] = nil_from_length c.loop-place.work.items (omega (arith, c.in_default.ensures.cases, c.loop-place.work.ok.0)) in
    sym (append-nil c.loop-place.cells) ∙ (ap (λ w. c.loop-place.cells ++ all_cells (trees (stack c.args.self.now.state w))) (sym none) ∙ c.loop-place.invariant.whole)

pub end_whole-requires : goal.end_whole-requires
end_whole-requires c =
    let d = done (goal.at.end_whole-requires c).In_default in
    subst IsTerm (sym d) (IsTerm-cells (tree_at c.args.self.now.state c.args.at) (subst (All IsCell) d c.loop-place.invariant.fine))

pub returns : goal.returns
returns c =
    let d = done (goal.at.returns c).In_default in
    sym (tree_of-cells c.end_whole.result) ∙ (ap tree_of (c.end_whole.ensures ∙ d) ∙ tree_of-cells (tree_at c.args.self.now.state c.args.at))
