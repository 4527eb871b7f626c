-- The lines of visible rows.
use Rattle.std.specs.Prelude.{ℕ, List, [], ◌∷◌, ◌++◌, codes, decimal}
use Rattle.pl_terms.specs.Order.{text_of}
use Rattle.text_model.specs.Writing.{name_text}
use Rattle.text_model.specs.declared.Quote.TheVariants.{Quoted as quotes}
use Rattle.search_model.specs.declared.rows.VisibleRow.{VisibleRow}

abbrev pub procedure_text : List (List ℕ) → VisibleRow → List ℕ
procedure_text names r =
    name_text quotes (text_of names r.module.0) ++ codes ":" ++ name_text quotes (text_of names r.ind.name.0) ++ codes "/" ++ decimal r.ind.arity

abbrev pub row_text : List (List ℕ) → VisibleRow → List ℕ
row_text names r = procedure_text names r ++ codes " from " ++ name_text quotes (text_of names r.definer.0) ++ codes "\n"

abbrev pub rows_text : List (List ℕ) → List VisibleRow → List ℕ
rows_text names [] = []
rows_text names (r ∷ rs) = row_text names r ++ rows_text names rs
