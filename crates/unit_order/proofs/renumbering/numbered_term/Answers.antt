use Rattle.std.proofs.Common.{sym, ap, ◌∙◌, subst, map}
use Rattle.pl_terms.specs.Cells.{IsTerm, IsCell}
use Rattle.unit_order.specs.Numbering.{number_in, cell_by_name}
use Rattle.unit_order.proofs.Cells.{renamed-cells, still_term, still_cell, whole_copy, cell_at}
use Rattle.unit_order.proofs.renumbering.numbered_term.Goals as goal

pub push-requires : goal.push-requires
push-requires c = subst IsCell (sym c.numbered_cell.ensures) (still_cell (number_in c.args.used.now) _ (cell_at _ _ _ c.cells-cells.ensures.whole.whole c.loop-cell-test.true))

pub end_whole-requires : goal.end_whole-requires
end_whole-requires c =
    let whole = whole_copy (number_in c.args.used.now) c.cells-cells.result.now _ _ c.loop-cell-test.false c.loop-cell.invariant in
    subst IsTerm (sym whole) (still_term (number_in c.args.used.now) _ c.cells-cells.ensures.whole)

pub returns : goal.returns
returns c =
    let whole = whole_copy (number_in c.args.used.now) c.cells-cells.result.now _ _ c.loop-cell-test.false c.loop-cell.invariant in
    renamed-cells (number_in c.args.used.now) _ _ (c.end_whole.ensures ∙ whole ∙ ap (map (cell_by_name (number_in c.args.used.now))) c.cells-cells.ensures.same)
