use Rattle.std.proofs.Common.{sym, ap, ◌∙◌, subst, map, length, slice_index}
use Rattle.pl_terms.specs.Cells.{IsTerm, IsCell}
use Rattle.mod_linker.specs.Cells.{mapped_cell}
use Rattle.mod_linker.proofs.Mapping.{renamed-cells, still_term, still_cell, whole_copy, cell_at, cell_below}
use Rattle.mod_linker.proofs.terms.mapped.Goals as goal

pub mapped_cell-requires : goal.mapped_cell-requires
mapped_cell-requires c = cell_below (length c.args.remap.now) c.args.term.now c.cells-cells.result.now c.loop-cell.cell-index _ c.cells-cells.ensures.same c.loop-cell-test.true c.requires

pub push-requires : goal.push-requires
push-requires c = subst IsCell (sym c.mapped_cell.ensures) (still_cell (slice_index c.args.remap.now) _ (cell_at _ _ _ c.cells-cells.ensures.whole.whole c.loop-cell-test.true))

pub end_whole-requires : goal.end_whole-requires
end_whole-requires c =
    let whole = whole_copy (slice_index c.args.remap.now) c.cells-cells.result.now _ _ c.loop-cell-test.false c.loop-cell.invariant in
    subst IsTerm (sym whole) (still_term (slice_index c.args.remap.now) _ c.cells-cells.ensures.whole)

pub returns : goal.returns
returns c =
    let whole = whole_copy (slice_index c.args.remap.now) c.cells-cells.result.now _ _ c.loop-cell-test.false c.loop-cell.invariant in
    renamed-cells (slice_index c.args.remap.now) _ _ (c.end_whole.ensures ∙ whole ∙ ap (map (mapped_cell (slice_index c.args.remap.now))) c.cells-cells.ensures.same)
