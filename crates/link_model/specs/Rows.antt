-- The visible rows of units whose definer is a module.
use Rattle.std.specs.Prelude.{List, [], ◌∷◌, ◌&&◌, Option, Some, None, if◌then◌else◌}
use Rattle.std.specs.List.{filter_map}
use Rattle.std.specs.Ordering.{nat_cmp, ordering_then}
use Rattle.std.specs.declared.cmp.Ordering.{Ordering}
use Rattle.std.specs.declared.cmp.Ordering.TheVariants.{Less, Equal, Greater}
use Rattle.pl_terms.specs.Order.{text_cmp}
use Rattle.unit_model.specs.Facts.{Facts}
use Rattle.unit_model.specs.Directives.{Text}
use Rattle.link_model.specs.Places.{Ind, places_of}
use Rattle.link_model.specs.Seeing.{exists, Cause, causes}
use Rattle.link_model.specs.Faults.{is_seeing}

pub record Row : Type 0 where
  pub of : Text
  pub ind : Ind
  pub definer : Text

-- by module, then name, number of arguments and definer
abbrev pub row_cmp : Row → Row → Ordering
row_cmp a b = ordering_then (text_cmp a.of b.of) (ordering_then (text_cmp a.ind.name b.ind.name) (ordering_then (nat_cmp a.ind.arity b.ind.arity) (text_cmp a.definer b.definer)))

abbrev pub put_by : Ordering → Row → Row → List Row → List Row → List Row
put_by Less r s rs put = r ∷ s ∷ rs
put_by Equal r s rs put = s ∷ rs
put_by Greater r s rs put = s ∷ put

-- in its place, once
abbrev pub put : Row → List Row → List Row
put r [] = r ∷ []
put r (s ∷ rs) = put_by (row_cmp r s) r s rs (put r rs)

abbrev pub in_order : List Row → List Row
in_order [] = []
in_order (r ∷ rs) = put r (in_order rs)

abbrev pub seen_row : List (Facts Text) → Cause → Option Row
seen_row us c = if is_seeing c.sort && exists us c.of then Some (record { of = c.of; ind = c.ind; definer = c.definer }) else None

abbrev pub rows_of : List (Facts Text) → List Row
rows_of us = in_order (filter_map (seen_row us) (causes (places_of 0 us)))
