use Rattle.std.proofs.Common.{◌≡◌, List, map, None, ap, subst, ◌∙◌}
use Rattle.std.specs.Prelude.{Contains}
use Rattle.std.specs.List.Sorted.{IsPermutation}
use Rattle.search_model.specs.declared.rows.VisibleRow.{VisibleRow}
use Rattle.unit_model.specs.Facts.{Facts}
use Rattle.unit_model.specs.Directives.{Text}
use Rattle.link_model.specs.Rows.{row_cmp}
use Rattle.mod_visible.specs.Finding.{row_text, AreRows}
use Rattle.mod_visible.specs.Ordered.{distinct_after}
use Rattle.mod_visible.specs.Visibility.{HasCauses, AreModules}
use Rattle.mod_visible.proofs.RowLaws.{both_ok, are_rows}
use Rattle.mod_visible.proofs.rows.rows_of.Goals as goal

pub returns : goal.returns
returns c =
    let names = c.args.names.now in
    let modules = c.args.modules.now in
    let causes = c.args.causes.now in
    let sorted = c.sort_rows.new.rows.items in
    let here = c.as_slice.result.now in
    let perm = subst (λ (l : List VisibleRow). IsPermutation l sorted) c.in_ok-found.ensures c.in_ok-sort_rows.ensures.permutation in
    both_ok c.distinct_rows.result
    (λ rs. map (row_text names) rs ≡ distinct_after row_cmp None (map (row_text names) here))
    (λ rs. (r : VisibleRow) → Contains rs r → Contains here r)
    (λ rs. (units : List (Facts Text)) → HasCauses units names causes → AreModules units modules → AreRows names units rs)
    (λ rs texts those. λ units h are.
    are_rows units names modules causes h are sorted rs perm c.in_ok-sort_rows.ensures.sorted
    (texts ∙ ap (λ (l : List VisibleRow). distinct_after row_cmp None (map (row_text names) l)) c.as_slice.ensures.value)
    (λ r i. subst (λ (l : List VisibleRow). Contains l r) c.as_slice.ensures.value (those r i)))
    c.distinct_rows.ensures.texts c.distinct_rows.ensures.those
