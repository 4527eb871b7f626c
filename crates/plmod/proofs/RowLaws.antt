-- The lines of rows over a table of names.
use Rattle.std.proofs.Common.{◌≡◌, ℕ, List, [], ◌∷◌, ◌++◌, map, Result, Ok, Err, IfOk, refl, ap, ◌∙◌}
use Rattle.std.specs.List.{flat_map}
use Rattle.pl_atoms.specs.declared.memory.NoMemory.{NoMemory}
use Rattle.unit_model.specs.Facts.{Facts}
use Rattle.unit_model.specs.Directives.{Text}
use Rattle.search_model.specs.declared.rows.VisibleRow.{VisibleRow}
use Rattle.prep_report.specs.Rows.{rows_text, row_text as row_bytes}
use Rattle.mod_visible.specs.Finding.{row_text, AreRows}
use Rattle.plmod.specs.Links.{row_line, show_lines}

lines_of-rows : (names : List Text) (rows : List VisibleRow) → rows_text names rows ≡ flat_map row_line (map (row_text names) rows)
lines_of-rows names [] = refl
lines_of-rows names (r ∷ rs) = ap (λ l. row_bytes names r ++ l) (lines_of-rows names rs)

shown : (names : List Text) (us : List (Facts Text)) (rows : List VisibleRow) (lines : List ℕ) → AreRows names us rows → lines ≡ rows_text names rows → lines ≡ show_lines us
shown names us rows lines are is = is ∙ lines_of-rows names rows ∙ ap (flat_map row_line) are.texts

pub shown_result : (names : List Text) (us : List (Facts Text)) (rows : List VisibleRow) (r : Result (List ℕ) NoMemory) → AreRows names us rows
    → IfOk r (λ lines. lines ≡ rows_text names rows) → IfOk r (λ lines. lines ≡ show_lines us)
shown_result names us rows (Ok lines) are is = shown names us rows lines are is
shown_result names us rows (Err e) are is = tt
