-- Cells with other numbers of names.
use Rattle.std.proofs.Common.{◌≡◌, ℕ, zero, suc, ◌<◌, ◌≤◌, List, [], ◌∷◌, ◌++◌, map, length, take, get_or, refl, sym, ap, ◌∙◌, arith, subst}
use Rattle.std.proofs.lemmas.List.{map-append, take_all}
use Rattle.pl_terms.specs.Trees.{Tree, var, int, atom, comp, Trees, nil, cons, count, renamed, all_renamed}
use Rattle.pl_terms.specs.Cells.{cells, all_cells, forest, IsForest, IsTerm, IsCell, tree_of}
use Rattle.pl_terms.specs.Forest.{tree_of-cells}
use Rattle.pl_terms.specs.declared.cell.Cell.{Cell}
use Rattle.pl_terms.specs.declared.cell.Cell.TheVariants.{Var, Int, Name, Comp}
use Rattle.unit_format.proofs.CellLaws.{count-back}
use Rattle.unit_order.specs.Numbering.{cell_by_name}

module _ (f : ℕ → ℕ) where
  count-renamed : (ts : Trees ℕ) → count (all_renamed f ts) ≡ count ts
  count-renamed nil = refl
  count-renamed (cons t ts) = ap suc (count-renamed ts)

  mutual
    cells-renamed : (t : Tree ℕ) → cells (renamed f t) ≡ map (cell_by_name f) (cells t)
    cells-renamed (var n) = refl
    cells-renamed (int z) = refl
    cells-renamed (atom s) = refl
    cells-renamed (comp s ts) =
        ap (λ n. Comp (record { 0 = f s }) n ∷ all_cells (all_renamed f ts)) (count-renamed ts)
        ∙ ap (λ cs. Comp (record { 0 = f s }) (count ts) ∷ cs) (all_cells-renamed ts)

    all_cells-renamed : (ts : Trees ℕ) → all_cells (all_renamed f ts) ≡ map (cell_by_name f) (all_cells ts)
    all_cells-renamed nil = refl
    all_cells-renamed (cons t ts) =
        ap (λ cs. cs ++ all_cells (all_renamed f ts)) (cells-renamed t)
        ∙ ap (λ cs. map (cell_by_name f) (cells t) ++ cs) (all_cells-renamed ts)
        ∙ sym (map-append (cell_by_name f) (cells t) (all_cells ts))

  -- the term of the cells with other names
  pub renamed-cells : (t u : Tree ℕ) → cells u ≡ map (cell_by_name f) (cells t) → u ≡ renamed f t
  renamed-cells t u e = sym (tree_of-cells u) ∙ ap tree_of (e ∙ sym (cells-renamed t)) ∙ tree_of-cells (renamed f t)

  -- they are still one whole term
  count-forest : (cs : List Cell) → count (forest (map (cell_by_name f) cs)) ≡ count (forest cs)
  count-forest [] = refl
  count-forest (Var n ∷ cs) = ap suc (count-forest cs)
  count-forest (Int z ∷ cs) = ap suc (count-forest cs)
  count-forest (Name s ∷ cs) = ap suc (count-forest cs)
  count-forest (Comp s k ∷ cs) =
      omega (arith, count-forest cs, count-back k (forest (map (cell_by_name f) cs)), count-back k (forest cs))

  still_forest : (cs : List Cell) → IsForest cs → IsForest (map (cell_by_name f) cs)
  still_forest [] h = tt
  still_forest (Var n ∷ cs) h = still_forest cs h
  still_forest (Int z ∷ cs) h = still_forest cs h
  still_forest (Name s ∷ cs) h = still_forest cs h
  still_forest (Comp s k ∷ cs) h = (h.0, subst (λ n. k ≤ n) (sym (count-forest cs)) h.1, still_forest cs h.2)

  pub still_term : (cs : List Cell) → IsTerm cs → IsTerm (map (cell_by_name f) cs)
  still_term cs h = record { whole = still_forest cs h.whole; one = count-forest cs ∙ h.one }

  pub still_cell : (c : Cell) → IsCell c → IsCell (cell_by_name f c)
  still_cell (Var n) h = tt
  still_cell (Int z) h = tt
  still_cell (Name s) h = tt
  still_cell (Comp s k) h = h

  -- a whole copy
  pub whole_copy : (cs copy : List Cell) (i : ℕ) → length cs ≤ i → copy ≡ map (cell_by_name f) (take i cs) → copy ≡ map (cell_by_name f) cs
  whole_copy cs copy i ended was = was ∙ ap (map (cell_by_name f)) (take_all i cs ended)

-- each cell of whole trees is a cell
rest_whole : (c : Cell) (cs : List Cell) → IsForest (c ∷ cs) → IsForest cs
rest_whole (Var n) cs h = h
rest_whole (Int z) cs h = h
rest_whole (Name s) cs h = h
rest_whole (Comp s k) cs h = h.2

first_whole : (c : Cell) (cs : List Cell) → IsForest (c ∷ cs) → IsCell c
first_whole (Var n) cs h = tt
first_whole (Int z) cs h = tt
first_whole (Name s) cs h = tt
first_whole (Comp s k) cs h = h.0

pub cell_at : (cs : List Cell) (i : ℕ) (d : Cell) → IsForest cs → i < length cs → IsCell (get_or cs i d)
cell_at [] i d h within = absurd (omega arith)
cell_at (c ∷ cs) zero d h within = first_whole c cs h
cell_at (c ∷ cs) (suc i) d h within = cell_at cs i d (rest_whole c cs h) (omega arith)
