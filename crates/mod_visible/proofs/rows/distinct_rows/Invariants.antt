use Rattle.std.specs.Prelude.{Contains}
use Rattle.link_model.specs.Rows.{row_cmp}
use Rattle.search_model.specs.declared.rows.VisibleRow.{VisibleRow}
use Rattle.mod_visible.specs.Finding.{row_text}
use Rattle.mod_visible.proofs.LoopLaws.{SoFar}
use Rattle.mod_visible.proofs.rows.distinct_rows.Given as goal

abbrev pub invariant-loop-row : goal.invariant-loop-row
invariant-loop-row l = SoFar row_cmp (row_text l.names) l.rows l.distinct l.last l.row-index × ((r : VisibleRow) → Contains l.distinct r → Contains l.rows r)
