-- The cells of a text of codes.
use Rattle.std.specs.Prelude.{ℕ, List, [], ◌∷◌, pos}
use Rattle.pl_terms.specs.declared.cell.Cell.{Cell}
use Rattle.pl_terms.specs.declared.cell.Cell.TheVariants.{Int}

abbrev pub code_cells : List ℕ → List Cell
code_cells [] = []
code_cells (c ∷ cs) = Int (pos c) ∷ code_cells cs
