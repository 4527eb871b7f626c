use Rattle.std.proofs.Common.{◌+◌, List, [], ◌∷◌, ◌++◌, get_or, Option, sym, subst, ◌∙◌}
use Rattle.std.specs.Prelude.{Contains}
use Rattle.search_model.specs.declared.rows.VisibleRow.{VisibleRow}
use Rattle.link_model.specs.Rows.{row_cmp}
use Rattle.mod_visible.specs.Finding.{row_text}
use Rattle.mod_visible.proofs.LoopLaws.{SoFar, so_far_kept, so_far_left, one_more_in}
use Rattle.mod_visible.proofs.rows.distinct_rows.Goals.{then-rises+in_ok-push, else-rises}
use Rattle.mod_visible.proofs.rows.distinct_rows.Goals as goal

pub loop-row-preserved : goal.loop-row-preserved
loop-row-preserved c =
    let names = c.args.names.now in
    let rows = c.args.rows.now in
    let at = c.loop-row.row-index in
    let old = c.loop-row.distinct in
    let row : VisibleRow = get_or rows at (record { «module» = record { 0 = 0 }; ind = record { name = record { 0 = 0 }; arity = 0 }; definer = record { 0 = 0 } }) in
    let P : List VisibleRow → Option VisibleRow → Type 0 = λ kept last. SoFar row_cmp (row_text names) rows kept last (at + 1) × ((r : VisibleRow) → Contains kept r → Contains rows r) in
    elim c.if-rises.branch [
      | then-rises+in_ok-push w ↦
          subst (λ kept. P kept c.if-rises.last) (sym (w.distinct-is ∙ w.in_ok-push.ensures.ok))
          (subst (P (old ++ row ∷ [])) (sym w.last-is)
          (so_far_kept row_cmp (row_text names) rows old c.loop-row.last at _ c.loop-row-test.true c.loop-row.invariant.0 (sym c.rises.ensures ∙ w.if-rises.true), one_more_in rows old at _ c.loop-row-test.true c.loop-row.invariant.1))
      | else-rises w ↦
          subst (λ kept. P kept c.if-rises.last) (sym w.distinct-is)
          (subst (P old) (sym w.last-is) (so_far_left row_cmp (row_text names) rows old c.loop-row.last at _ c.loop-row-test.true c.loop-row.invariant.0 (sym c.rises.ensures ∙ w.if-rises.false), c.loop-row.invariant.1))
    ]
