use Rattle.std.proofs.Common.{◌+◌, ◌<◌, ◌^◌, sym, ap, ◌∙◌, subst, map}
use Rattle.pl_terms.specs.Cells.{IsTerm, IsCell}
use Rattle.pl_terms.specs.CellNumbers.{cell_by}
use Rattle.pl_terms.proofs.Numbering.{numbered_by-cells, IsTerm-cell_by, IsCell-cell_by, IsForest-at, AtVariable-cells, cell_by-more, cell_by-whole}
use Rattle.pl_terms.proofs.term.Term.rename.Goals as goal

pub raised-requires : goal.raised-requires
raised-requires c = AtVariable-cells (λ n. n + c.args.base < 2 ^ 64) _ _ c.cells-cells.ensures.same c.requires _ _ c.loop-cell-test.true

pub push-requires : goal.push-requires
push-requires c =
    subst IsCell (sym c.raised.ensures) (IsCell-cell_by (λ n. n + c.args.base) _ (IsForest-at _ _ _ c.cells-cells.ensures.whole.whole c.loop-cell-test.true))

pub end_whole-requires : goal.end_whole-requires
end_whole-requires c =
    let whole = cell_by-whole (λ n. n + c.args.base) c.cells-cells.result.now _ _ c.loop-cell-test.false c.loop-cell.invariant in
    subst IsTerm (sym whole) (IsTerm-cell_by (λ n. n + c.args.base) _ c.cells-cells.ensures.whole)

pub loop-cell-preserved : goal.loop-cell-preserved
loop-cell-preserved c =
    cell_by-more (λ n. n + c.args.base) c.cells-cells.result.now _ _ _ _ _ c.loop-cell-test.true c.loop-cell.invariant c.raised.ensures c.in_ok-push.ensures.ok

pub returns : goal.returns
returns c =
    let whole = cell_by-whole (λ n. n + c.args.base) c.cells-cells.result.now _ _ c.loop-cell-test.false c.loop-cell.invariant in
    numbered_by-cells (λ n. n + c.args.base) _ _ (c.end_whole.ensures ∙ whole ∙ ap (map (cell_by (λ n. n + c.args.base))) c.cells-cells.ensures.same)
