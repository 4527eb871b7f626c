-- Cells under other numbers of names, and heads by their first cells.
use Rattle.std.specs.Prelude.{ℕ, ◌<◌, List, ◌∷◌, Bool, true, false, Option, Some, None}
use Rattle.pl_terms.specs.declared.cell.Cell.{Cell}
use Rattle.pl_terms.specs.declared.cell.Cell.TheVariants.{Var, Int, Name, Comp}
use Rattle.unit_model.specs.Facts.{Indicator}

abbrev pub mapped_cell : (ℕ → ℕ) → Cell → Cell
mapped_cell f (Var n) = Var n
mapped_cell f (Int z) = Int z
mapped_cell f (Name s) = Name (record { 0 = f s.0 })
mapped_cell f (Comp s k) = Comp (record { 0 = f s.0 }) k

abbrev pub CellBelow : ℕ → Cell → Type 0
CellBelow n (Var v) = Unit {0}
CellBelow n (Int z) = Unit {0}
CellBelow n (Name s) = s.0 < n
CellBelow n (Comp s k) = s.0 < n

abbrev pub begun : List Cell → Option (Indicator ℕ)
begun (Name s ∷ cs) = Some (record { name = s.0; arity = 0 })
begun (Comp s k ∷ cs) = Some (record { name = s.0; arity = k })
begun _ = None

abbrev pub is_begun : List Cell → Bool
is_begun (Name s ∷ cs) = true
is_begun (Comp s k ∷ cs) = true
is_begun _ = false
