-- The bytes of a cell, and what fits into fields.
use Rattle.std.specs.Prelude.{ℕ, ◌<◌, ◌^◌, List, [], ◌∷◌, ◌++◌, length, FitsSigned}
use Rattle.std.specs.List.{AllByRecursion}
use Rattle.unit_model.specs.Facts.{Facts}
use Rattle.unit_model.specs.Validity.{FitsFacts}
use Rattle.std.specs.Int.{w32, w64, to_be_bytes, cast_unsigned}
use Rattle.pl_terms.specs.declared.cell.Cell.{Cell}
use Rattle.pl_terms.specs.declared.cell.Cell.TheVariants.{Var, Int, Name, Comp}

-- a name by its place in the table
abbrev pub IsPlace : ℕ → Type 0
IsPlace n = n < 2 ^ 32

abbrev pub cell_tag : Cell → ℕ
cell_tag (Var n) = 0
cell_tag (Int z) = 1
cell_tag (Name s) = 2
cell_tag (Comp s k) = 3

abbrev pub cell_rest : Cell → List ℕ
cell_rest (Var n) = to_be_bytes w32 n
cell_rest (Int z) = to_be_bytes w64 (cast_unsigned w64 z)
cell_rest (Name s) = to_be_bytes w32 s.0
cell_rest (Comp s k) = to_be_bytes w32 s.0 ++ k ∷ []

abbrev pub cell_bytes : Cell → List ℕ
cell_bytes c = cell_tag c ∷ cell_rest c

abbrev pub FitsCell : Cell → Type 0
FitsCell (Var n) = n < 2 ^ 32
FitsCell (Int z) = FitsSigned w64 z
FitsCell (Name s) = s.0 < 2 ^ 32
FitsCell (Comp s k) = (s.0 < 2 ^ 32) × ((0 < k) × (k < 2 ^ 8))

abbrev pub IsLong : List ℕ → Type 0
IsLong s = length s < 2 ^ 32

-- names and facts by number whose lengths and numbers fit into their fields
pub record IsFit (names : List (List ℕ)) (f : Facts ℕ) : Type 0 where
  pub count : length names < 2 ^ 32
  pub long : AllByRecursion IsLong names
  pub facts : FitsFacts IsPlace f
