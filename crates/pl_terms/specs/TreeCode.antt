-- A tree by numbers is stored as its cells.
use Rattle.std.specs.Prelude.{◌≡◌, ℕ, ℤ, List, ◌⊎◌}
use Rattle.std.proofs.Common.{refl, inl, inr}
use Rattle.std.specs.Coded.{Coded, code_by, coded×, coded⊎, coded_ℕ, coded_ℤ, coded_list}
use Rattle.pl_terms.specs.Trees.{Tree}
use Rattle.pl_terms.specs.Cells.{cells, tree_of}
use Rattle.pl_terms.specs.Forest.{tree_of-cells}
use Rattle.pl_terms.specs.declared.cell.Cell.{Cell}
use Rattle.pl_terms.specs.declared.cell.Cell.TheVariants.{Var, Int, Name, Comp}

abbrev pub Parts : Type 0
Parts = (ℕ ⊎ ℤ) ⊎ (ℕ ⊎ (ℕ × ℕ))

abbrev pub parts : Cell → Parts
parts (Var n) = inl (inl n)
parts (Int z) = inl (inr z)
parts (Name s) = inr (inl s.0)
parts (Comp s k) = inr (inr (s.0, k))

abbrev pub cell : Parts → Cell
cell (inl (inl n)) = Var n
cell (inl (inr z)) = Int z
cell (inr (inl s)) = Name (record { 0 = s })
cell (inr (inr p)) = Comp (record { 0 = p.0 }) p.1

pub cell-parts : (c : Cell) → cell (parts c) ≡ c
cell-parts (Var n) = refl
cell-parts (Int z) = refl
cell-parts (Name s) = refl
cell-parts (Comp s k) = refl

abbrev pub cell_code : Coded Cell
cell_code = code_by Parts (coded⊎ (coded⊎ coded_ℕ coded_ℤ) (coded⊎ coded_ℕ (coded× coded_ℕ coded_ℕ))) parts cell cell-parts

abbrev pub tree_code : Coded (Tree ℕ)
tree_code = code_by (List Cell) (coded_list cell_code) cells tree_of tree_of-cells
