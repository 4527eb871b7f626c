-- The numbers of variables in cells.
use Rattle.std.specs.Prelude.{ℕ, List, [], ◌∷◌}
use Rattle.pl_terms.specs.declared.cell.Cell.{Cell}
use Rattle.pl_terms.specs.declared.cell.Cell.TheVariants.{Var, Int, Name, Comp}

-- the cell with its number of a variable replaced
abbrev pub cell_by : (ℕ → ℕ) → Cell → Cell
cell_by f (Var n) = Var (f n)
cell_by f (Int z) = Int z
cell_by f (Name s) = Name s
cell_by f (Comp s k) = Comp s k

-- what holds of a variable's number, at a cell that is one
abbrev pub AtVariable : (ℕ → Type 0) → Cell → Type 0
AtVariable P (Var n) = P n
AtVariable P (Int z) = Unit {0}
AtVariable P (Name s) = Unit {0}
AtVariable P (Comp s k) = Unit {0}

-- the numbers of the variables among the cells, from the left
abbrev pub numbers : List Cell → List ℕ
numbers [] = []
numbers (Var n ∷ cs) = n ∷ numbers cs
numbers (Int z ∷ cs) = numbers cs
numbers (Name s ∷ cs) = numbers cs
numbers (Comp s k ∷ cs) = numbers cs
