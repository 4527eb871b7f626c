-- Visible rows over the table of all names.
use Rattle.std.specs.Prelude.{◌≡◌, ℕ, List, length, slice_index, is_some, true}
use Rattle.unit_model.specs.Facts.{indicator_by}
use Rattle.unit_model.specs.Views.{ind_view}
use Rattle.search_model.specs.declared.rows.VisibleRow.{VisibleRow}
use Rattle.mod_visible.specs.Finding.{IsNamedRow}
use Rattle.pl_store.specs.Linked.{Linked}
use Rattle.pl_store.specs.Rules.{IsExisting}
use Rattle.pl_store.specs.Runs.{number_of}
use Rattle.mod_linker.specs.Rowing.{Shown}

abbrev pub shown_by : List ℕ → VisibleRow → Shown
shown_by numbers r = record { of = slice_index numbers r.module.0; ind = indicator_by (slice_index numbers) (ind_view r.ind); definer = slice_index numbers r.definer.0 }

-- its names are in the table, its module exists, and its procedure is in the program
pub record IsShowable (numbers : List ℕ) (l : Linked) (r : VisibleRow) : Type 0 where
  pub named : IsNamedRow (length numbers) r
  pub lookup : IsExisting l (shown_by numbers r).of
  pub definer : is_some (number_of l (shown_by numbers r).definer (shown_by numbers r).ind) ≡ true
