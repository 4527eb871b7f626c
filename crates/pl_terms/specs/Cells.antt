-- What a list of cells stands for: the trees that it spells one after another, in prefix order.
use Rattle.std.specs.Prelude.{◌≡◌, ℕ, ◌+◌, ◌<◌, ◌≤◌, List, [], ◌∷◌, ◌++◌}
use Rattle.pl_terms.specs.Trees.{Tree, var, int, atom, comp, Trees, nil, cons, count, front, back}
use Rattle.pl_terms.specs.declared.cell.Cell.{Cell}
use Rattle.pl_terms.specs.declared.cell.Cell.TheVariants.{Var, Int, Name, Comp}

-- the cells of a tree, from the left
abbrev mutual
  pub cells : Tree ℕ → List Cell
  cells (var n) = Var n ∷ []
  cells (int z) = Int z ∷ []
  cells (atom s) = Name (record { 0 = s }) ∷ []
  cells (comp s ts) = Comp (record { 0 = s }) (count ts) ∷ all_cells ts

  pub all_cells : Trees ℕ → List Cell
  all_cells nil = []
  all_cells (cons t ts) = cells t ++ all_cells ts

-- The trees that cells spell. A compound takes the trees after it, as many as it has arguments.
abbrev pub forest : List Cell → Trees ℕ
forest [] = nil
forest (Var n ∷ cs) = cons (var n) (forest cs)
forest (Int z ∷ cs) = cons (int z) (forest cs)
forest (Name s ∷ cs) = cons (atom s.0) (forest cs)
forest (Comp s k ∷ cs) = cons (comp s.0 (front k (forest cs))) (back k (forest cs))

-- no compound lacks an argument
abbrev pub IsForest : List Cell → Type 0
IsForest [] = Unit {0}
IsForest (Var n ∷ cs) = IsForest cs
IsForest (Int z ∷ cs) = IsForest cs
IsForest (Name s ∷ cs) = IsForest cs
IsForest (Comp s k ∷ cs) = (0 < k) × (k ≤ count (forest cs)) × IsForest cs

-- cells of one whole tree
pub record IsTerm (cs : List Cell) : Type 0 where
  pub whole : IsForest cs
  pub one : count (forest cs) ≡ 1

abbrev pub first : Trees ℕ → Tree ℕ
first nil = int (Rattle.std.specs.Prelude.pos 0)
first (cons t ts) = t

abbrev pub tree_of : List Cell → Tree ℕ
tree_of cs = first (forest cs)

-- one cell that is no compound without arguments
abbrev pub IsCell : Cell → Type 0
IsCell (Var n) = Unit {0}
IsCell (Int z) = Unit {0}
IsCell (Name s) = Unit {0}
IsCell (Comp s k) = 0 < k
