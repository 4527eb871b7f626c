-- Lists of trees, and the trees that cells in prefix order spell.
use Rattle.std.specs.Prelude.{ℕ, ◌<◌, ◌≤◌, List, [], ◌∷◌, take, drop}
use Rattle.pl_terms.specs.declared.cell.Cell.{Cell}
use Rattle.pl_terms.specs.declared.cell.Cell.TheVariants.{Var, Int, Name, Comp}
use Rattle.pl_terms.specs.Trees.{Tree, var, int, atom, comp, Trees, nil, cons}

-- a list of trees as arguments, and back
abbrev pub trees : List (Tree ℕ) → Trees ℕ
trees [] = nil
trees (t ∷ ts) = cons t (trees ts)

abbrev pub listed : Trees ℕ → List (Tree ℕ)
listed nil = []
listed (cons t ts) = t ∷ listed ts

-- the trees that begin with this cell, where `after` are those behind it
abbrev pub with_cell : Cell → List (Tree ℕ) → List (Tree ℕ)
with_cell (Var n) after = var n ∷ after
with_cell (Int z) after = int z ∷ after
with_cell (Name a) after = atom a.0 ∷ after
with_cell (Comp f k) after = comp f.0 (trees (take k after)) ∷ drop k after

-- the trees that cells spell, one after another
abbrev pub build : List Cell → List (Tree ℕ)
build [] = []
build (c ∷ cs) = with_cell c (build cs)

abbrev pub first_tree : List (Tree ℕ) → Tree ℕ
first_tree [] = var 0
first_tree (t ∷ ts) = t

-- a compound has arguments, and they are there
abbrev pub Has : Cell → ℕ → Type 0
Has (Var n) k = Unit {0}
Has (Int z) k = Unit {0}
Has (Name a) k = Unit {0}
Has (Comp f j) k = (j ≤ k) × (0 < j)
