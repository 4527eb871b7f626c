-- What a look-up finds, where definers clash, and which rows there are.
use Rattle.std.specs.Prelude.{◌≡◌, ℕ, ◌<◌, List, length, map, true, false, Contains}
use Rattle.std.specs.List.{AllByRecursion}
use Rattle.std.specs.Ordering.{nat_cmp, ordering_then}
use Rattle.std.specs.declared.cmp.Ordering.{Ordering}
use Rattle.unit_model.specs.Facts.{Facts}
use Rattle.unit_model.specs.Directives.{Text}
use Rattle.unit_model.specs.Encoding.{text_at}
use Rattle.search_model.specs.declared.rows.VisibleRow.{VisibleRow}
use Rattle.link_model.specs.Places.{Ind, is_built_in, system, places_of}
use Rattle.link_model.specs.Seeing.{Sort, seeing, Cause, causes}
use Rattle.link_model.specs.Faults.{clashes, is_by}
use Rattle.link_model.specs.Rows.{Row, rows_of}
use Rattle.mod_visible.specs.declared.clash.Clash.{Clash}
use Rattle.mod_visible.specs.Ordered.{ordered}

abbrev pub indicator : Text → ℕ → Ind
indicator s n = record { name = s; arity = n }

-- a cause of this sort for i in m
pub record IsCauseFor (us : List (Facts Text)) (s : Sort) (m : Text) (i : Ind) (c : Cause) : Type 0 where
  pub there : Contains (causes (places_of 0 us)) c
  pub sort : c.sort ≡ s
  pub of : c.of ≡ m
  pub ind : c.ind ≡ i

-- what a look-up of i in m finds: a built-in procedure, or else what a cause at the first place brings
pub data Finds (us : List (Facts Text)) (m : Text) (i : Ind) : Text → Type 0 where
  built_in : is_built_in i ≡ true → Finds us m i system
  caused : (c : Cause) → is_built_in i ≡ false → IsCauseFor us seeing m i c → ((e : Cause) → IsCauseFor us seeing m i e → is_by c e ≡ true) → Finds us m i c.definer

-- by unit, then byte
abbrev pub place_cmp : ℕ × ℕ → ℕ × ℕ → Ordering
place_cmp a b = ordering_then (nat_cmp a.0 b.0) (nat_cmp a.1 b.1)

-- the places of clashes of definers, each once, in order
abbrev pub clash_places : List (Facts Text) → List (ℕ × ℕ)
clash_places us = ordered place_cmp (map (λ f. (f.unit, f.byte)) (clashes (causes (places_of 0 us))))

abbrev pub clash_place : Clash → ℕ × ℕ
clash_place c = (c.unit, c.byte)

-- a row's texts
abbrev pub row_text : List Text → VisibleRow → Row
row_text names r = record { of = text_at names r.module.0; ind = indicator (text_at names r.ind.name.0) r.ind.arity; definer = text_at names r.definer.0 }

abbrev pub IsNamedRow : ℕ → VisibleRow → Type 0
IsNamedRow n r = (r.module.0 < n) × (r.ind.name.0 < n) × (r.definer.0 < n)

-- the rows of units, with names of the table
pub record AreRows (names : List Text) (us : List (Facts Text)) (rows : List VisibleRow) : Type 0 where
  pub named : AllByRecursion (IsNamedRow (length names)) rows
  pub texts : map (row_text names) rows ≡ rows_of us
