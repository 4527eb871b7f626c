use Rattle.std.proofs.Common.{◌∙◌, sym, subst}
use Rattle.pl_terms.specs.Cells.{IsTerm, IsCell}
use Rattle.pl_builtin_terms.proofs.Renumbering.{IsTerm-cell_by, IsCell-cell_by, IsForest-at, cell_by-whole}
use Rattle.pl_terms.specs.declared.cell.Cell.TheVariants.{Var}
use Rattle.pl_terms.specs.Occurrence.{place_of}
use Rattle.pl_builtin_terms.proofs.Copies.{final, keys-more, copy-more, copy-canon}
use Rattle.pl_builtin_terms.proofs.copying.numbered.Goals as goal

pub push-requires : goal.push-requires
push-requires c =
    subst IsCell (sym c.in_ok-renumbered.ensures.cell) (IsCell-cell_by (λ n. place_of n c.numbered_cell.new.seen.keys) _ (IsForest-at c.cells-cells.result.now c.loop-cell.cell-index (Var 0) c.cells-cells.ensures.whole.whole c.loop-cell-test.true))

pub loop-cell-preserved : goal.loop-cell-preserved
loop-cell-preserved c = record {
  keys = keys-more c.cells-cells.result.now c.loop-cell.cell-index (Var 0) c.loop-cell-test.true c.loop-cell.seen.keys _ c.loop-cell.invariant.keys c.in_ok-renumbered.ensures.keys;
  copy = copy-more c.cells-cells.result.now c.loop-cell.cell-index (Var 0) c.loop-cell-test.true c.loop-cell.seen.keys c.numbered_cell.new.seen.keys c.loop-cell.copy _ c.in_ok-renumbered.renumbered
      c.loop-cell.invariant.keys c.in_ok-renumbered.ensures.keys c.loop-cell.invariant.copy c.in_ok-renumbered.ensures.cell c.in_ok-push.ensures.ok;
}

pub end_whole-requires : goal.end_whole-requires
end_whole-requires c =
    let whole = cell_by-whole (final c.cells-cells.result.now) c.cells-cells.result.now c.loop-cell.cell-index c.loop-cell.copy c.loop-cell-test.false c.loop-cell.invariant.copy in
    subst IsTerm (sym whole) (IsTerm-cell_by (final c.cells-cells.result.now) _ c.cells-cells.ensures.whole)

pub returns : goal.returns
returns c =
    let whole = cell_by-whole (final c.cells-cells.result.now) c.cells-cells.result.now c.loop-cell.cell-index c.loop-cell.copy c.loop-cell-test.false c.loop-cell.invariant.copy in
    copy-canon c.args.term.now c.end_whole.result c.cells-cells.result.now c.cells-cells.ensures.same (c.end_whole.ensures ∙ whole)
