-- Converted bodies and heads, cell by cell.
use Rattle.std.specs.Prelude.{ℕ, zero, suc, ◌+◌, List, [], ◌∷◌, Bool, true, false, Option, Some, None, if◌then◌else◌}
use Rattle.pl_terms.specs.declared.cell.Cell.{Cell}
use Rattle.pl_terms.specs.declared.cell.Cell.TheVariants.{Var, Int, Name, Comp}
use Rattle.unit_model.specs.Encoding.{text_at}
use Rattle.unit_model.specs.Validity.{is_control}
use Rattle.unit_format.specs.Reading.{arity_of}

-- the first cell is that of an atom or a compound term
abbrev pub begins_head : List Cell → Bool
begins_head [] = false
begins_head (Var n ∷ cs) = false
begins_head (Int z ∷ cs) = false
begins_head (Name s ∷ cs) = true
begins_head (Comp s k ∷ cs) = true

-- How many trees are passed over after a cell, where so many were before it: they stand in no goal place. None: a variable or
-- an integer stands in a goal place.
abbrev pub past_cell : List (List ℕ) → ℕ → Cell → Option ℕ
past_cell names (suc k) c = Some (k + arity_of c)
past_cell names zero (Var n) = None
past_cell names zero (Int z) = None
past_cell names zero (Name s) = Some 0
past_cell names zero (Comp s k) = Some (if is_control (text_at names s.0) k then 0 else k)
