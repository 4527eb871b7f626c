-- Cells with other numbers of variables.
use Rattle.std.proofs.Common.{◌≡◌, ℕ, zero, suc, ◌+◌, ◌-◌, ◌<◌, ◌≤◌, List, [], ◌∷◌, ◌++◌, map, length, take, get_or, refl, sym, ap, ◌∙◌, arith, subst}
use Rattle.std.proofs.lemmas.List.{map-append, take_all, take_more}
use Rattle.pl_terms.specs.Trees.{Tree, var, int, atom, comp, Trees, nil, cons, count, back}
use Rattle.pl_terms.specs.Cells.{cells, all_cells, forest, IsForest, IsTerm, IsCell, tree_of}
use Rattle.pl_terms.specs.Forest.{tree_of-cells}
use Rattle.pl_terms.specs.Occurrence.{occurrences, all_occurrences, numbered_by, all_numbered_by}
use Rattle.pl_terms.specs.CellNumbers.{cell_by, numbers}
use Rattle.pl_terms.specs.declared.cell.Cell.{Cell}
use Rattle.pl_terms.specs.declared.cell.Cell.TheVariants.{Var, Int, Name, Comp}

count-back : {N : Type 0} (k : ℕ) (ts : Trees N) → count (back k ts) ≡ count ts - k
count-back zero ts = omega arith
count-back (suc k) nil = omega arith
count-back (suc k) (cons t ts) = omega (arith, count-back k ts)

IsForest-rest : (c : Cell) (cs : List Cell) → IsForest (c ∷ cs) → IsForest cs
IsForest-rest (Var n) cs h = h
IsForest-rest (Int z) cs h = h
IsForest-rest (Name s) cs h = h
IsForest-rest (Comp s k) cs h = h.2

module _ (f : ℕ → ℕ) where
  count-all_numbered_by : (ts : Trees ℕ) → count (all_numbered_by f ts) ≡ count ts
  count-all_numbered_by nil = refl
  count-all_numbered_by (cons t ts) = ap suc (count-all_numbered_by ts)

  mutual
    pub cells-numbered_by : (t : Tree ℕ) → cells (numbered_by f t) ≡ map (cell_by f) (cells t)
    cells-numbered_by (var n) = refl
    cells-numbered_by (int z) = refl
    cells-numbered_by (atom s) = refl
    cells-numbered_by (comp s ts) =
        ap (λ n. Comp (record { 0 = s }) n ∷ all_cells (all_numbered_by f ts)) (count-all_numbered_by ts)
        ∙ ap (λ cs. Comp (record { 0 = s }) (count ts) ∷ cs) (all_cells-numbered_by ts)

    all_cells-numbered_by : (ts : Trees ℕ) → all_cells (all_numbered_by f ts) ≡ map (cell_by f) (all_cells ts)
    all_cells-numbered_by nil = refl
    all_cells-numbered_by (cons t ts) =
        ap (λ cs. cs ++ all_cells (all_numbered_by f ts)) (cells-numbered_by t)
        ∙ ap (λ cs. map (cell_by f) (cells t) ++ cs) (all_cells-numbered_by ts)
        ∙ sym (map-append (cell_by f) (cells t) (all_cells ts))

  -- the term of the cells with other numbers
  pub numbered_by-cells : (t u : Tree ℕ) → cells u ≡ map (cell_by f) (cells t) → u ≡ numbered_by f t
  numbered_by-cells t u e = sym (tree_of-cells u) ∙ ap tree_of (e ∙ sym (cells-numbered_by t)) ∙ tree_of-cells (numbered_by f t)

  -- they are still one whole term
  count-forest-cell_by : (cs : List Cell) → count (forest (map (cell_by f) cs)) ≡ count (forest cs)
  count-forest-cell_by [] = refl
  count-forest-cell_by (Var n ∷ cs) = ap suc (count-forest-cell_by cs)
  count-forest-cell_by (Int z ∷ cs) = ap suc (count-forest-cell_by cs)
  count-forest-cell_by (Name s ∷ cs) = ap suc (count-forest-cell_by cs)
  count-forest-cell_by (Comp s k ∷ cs) =
      omega (arith, count-forest-cell_by cs, count-back k (forest (map (cell_by f) cs)), count-back k (forest cs))

  IsForest-cell_by : (cs : List Cell) → IsForest cs → IsForest (map (cell_by f) cs)
  IsForest-cell_by [] h = tt
  IsForest-cell_by (Var n ∷ cs) h = IsForest-cell_by cs h
  IsForest-cell_by (Int z ∷ cs) h = IsForest-cell_by cs h
  IsForest-cell_by (Name s ∷ cs) h = IsForest-cell_by cs h
  IsForest-cell_by (Comp s k ∷ cs) h = (h.0, subst (λ n. k ≤ n) (sym (count-forest-cell_by cs)) h.1, IsForest-cell_by cs h.2)

  pub IsTerm-cell_by : (cs : List Cell) → IsTerm cs → IsTerm (map (cell_by f) cs)
  IsTerm-cell_by cs h = record { whole = IsForest-cell_by cs h.whole; one = count-forest-cell_by cs ∙ h.one }

  pub IsCell-cell_by : (c : Cell) → IsCell c → IsCell (cell_by f c)
  IsCell-cell_by (Var n) h = tt
  IsCell-cell_by (Int z) h = tt
  IsCell-cell_by (Name s) h = tt
  IsCell-cell_by (Comp s k) h = h

-- each cell of whole trees is a cell
IsForest-first : (c : Cell) (cs : List Cell) → IsForest (c ∷ cs) → IsCell c
IsForest-first (Var n) cs h = tt
IsForest-first (Int z) cs h = tt
IsForest-first (Name s) cs h = tt
IsForest-first (Comp s k) cs h = h.0

pub IsForest-at : (cs : List Cell) (i : ℕ) (d : Cell) → IsForest cs → i < length cs → IsCell (get_or cs i d)
IsForest-at [] i d h within = absurd (omega arith)
IsForest-at (c ∷ cs) zero d h within = IsForest-first c cs h
IsForest-at (c ∷ cs) (suc i) d h within = IsForest-at cs i d (IsForest-rest c cs h) (omega arith)

-- the numbers of a tree's cells are its variables' occurrences
pub numbers-append : (cs ds : List Cell) → numbers (cs ++ ds) ≡ numbers cs ++ numbers ds
numbers-append [] ds = refl
numbers-append (Var n ∷ cs) ds = ap (λ ns. n ∷ ns) (numbers-append cs ds)
numbers-append (Int z ∷ cs) ds = numbers-append cs ds
numbers-append (Name s ∷ cs) ds = numbers-append cs ds
numbers-append (Comp s k ∷ cs) ds = numbers-append cs ds

mutual
  pub numbers-cells : (t : Tree ℕ) → numbers (cells t) ≡ occurrences t
  numbers-cells (var n) = refl
  numbers-cells (int z) = refl
  numbers-cells (atom s) = refl
  numbers-cells (comp s ts) = numbers-all_cells ts

  numbers-all_cells : (ts : Trees ℕ) → numbers (all_cells ts) ≡ all_occurrences ts
  numbers-all_cells nil = refl
  numbers-all_cells (cons t ts) =
      numbers-append (cells t) (all_cells ts)
      ∙ ap (λ ns. ns ++ numbers (all_cells ts)) (numbers-cells t)
      ∙ ap (λ ns. occurrences t ++ ns) (numbers-all_cells ts)

-- a copy of the cells with other numbers, one more at a time
module _ (f : ℕ → ℕ) (cs : List Cell) (i : ℕ) where
  pub cell_by-more : (copy more : List Cell) (c d : Cell) → i < length cs → copy ≡ map (cell_by f) (take i cs) → c ≡ cell_by f (get_or cs i d) → more ≡ copy ++ c ∷ [] → more ≡ map (cell_by f) (take (i + 1) cs)
  cell_by-more copy more c d within was is step =
      step
      ∙ ap (λ l. l ++ c ∷ []) was
      ∙ ap (λ x. map (cell_by f) (take i cs) ++ x ∷ []) is
      ∙ sym (map-append (cell_by f) (take i cs) (get_or cs i d ∷ []))
      ∙ ap (map (cell_by f)) (sym (take_more cs i d within))

  pub cell_by-whole : (copy : List Cell) → length cs ≤ i → copy ≡ map (cell_by f) (take i cs) → copy ≡ map (cell_by f) cs
  cell_by-whole copy ended was = was ∙ ap (map (cell_by f)) (take_all i cs ended)
