-- The first place at which definers clash.
use Rattle.std.specs.Prelude.{ℕ, List, [], ◌∷◌, Option, Some, None, slice_get}
use Rattle.unit_model.specs.Facts.{Facts}
use Rattle.unit_model.specs.Directives.{Text}
use Rattle.link_model.specs.Faults.{Fault, fault}
use Rattle.mod_visible.specs.Finding.{clash_places}

abbrev pub clash_at : ℕ × ℕ → Fault
clash_at p = fault p.0 p.1 7

abbrev pub clash_by : Option (ℕ × ℕ) → List Fault
clash_by None = []
clash_by (Some p) = clash_at p ∷ []

-- a fault at the first place
abbrev pub first_clash : List (Facts Text) → List Fault
first_clash us = clash_by (slice_get (clash_places us) 0)
