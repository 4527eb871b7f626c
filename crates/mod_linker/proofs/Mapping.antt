-- Terms cell by cell under other numbers of names.
use Rattle.std.proofs.Common.{◌≡◌, ℕ, zero, suc, ◌<◌, ◌≤◌, List, [], ◌∷◌, ◌++◌, map, length, take, get_or, refl, sym, ap, ◌∙◌, arith, subst}
use Rattle.std.specs.List.{AllByRecursion}
use Rattle.std.proofs.lemmas.List.{map-append, take_all}
use Rattle.pl_terms.specs.Trees.{Tree, var, int, atom, comp, Trees, nil, cons, count, renamed, all_renamed}
use Rattle.pl_terms.specs.Cells.{cells, all_cells, forest, IsForest, IsTerm, IsCell, tree_of}
use Rattle.pl_terms.specs.Forest.{tree_of-cells}
use Rattle.pl_terms.specs.declared.cell.Cell.{Cell}
use Rattle.pl_terms.specs.declared.cell.Cell.TheVariants.{Var, Int, Name, Comp}
use Rattle.unit_model.specs.Facts.{tree_names, trees_names}
use Rattle.unit_model.specs.Validity.{is_head}
use Rattle.unit_format.proofs.CellLaws.{count-back}
use Rattle.unit_format.proofs.Renaming.{AllBy-parts}
use Rattle.mod_visible.specs.Placing.{AllBelow}
use Rattle.program_model.specs.Saying.{head_indicator}
use Rattle.mod_linker.specs.Cells.{mapped_cell, CellBelow, begun, is_begun}
use Rattle.mod_linker.proofs.Gathering.{all_append}

module _ (f : ℕ → ℕ) where
  count-renamed : (ts : Trees ℕ) → count (all_renamed f ts) ≡ count ts
  count-renamed nil = refl
  count-renamed (cons t ts) = ap suc (count-renamed ts)

  mutual
    cells-renamed : (t : Tree ℕ) → cells (renamed f t) ≡ map (mapped_cell f) (cells t)
    cells-renamed (var n) = refl
    cells-renamed (int z) = refl
    cells-renamed (atom s) = refl
    cells-renamed (comp s ts) =
        ap (λ n. Comp (record { 0 = f s }) n ∷ all_cells (all_renamed f ts)) (count-renamed ts)
        ∙ ap (λ cs. Comp (record { 0 = f s }) (count ts) ∷ cs) (all_cells-renamed ts)

    all_cells-renamed : (ts : Trees ℕ) → all_cells (all_renamed f ts) ≡ map (mapped_cell f) (all_cells ts)
    all_cells-renamed nil = refl
    all_cells-renamed (cons t ts) =
        ap (λ cs. cs ++ all_cells (all_renamed f ts)) (cells-renamed t)
        ∙ ap (λ cs. map (mapped_cell f) (cells t) ++ cs) (all_cells-renamed ts)
        ∙ sym (map-append (mapped_cell f) (cells t) (all_cells ts))

  -- the term of the cells with other names
  pub renamed-cells : (t u : Tree ℕ) → cells u ≡ map (mapped_cell f) (cells t) → u ≡ renamed f t
  renamed-cells t u e = sym (tree_of-cells u) ∙ ap tree_of (e ∙ sym (cells-renamed t)) ∙ tree_of-cells (renamed f t)

  count-forest : (cs : List Cell) → count (forest (map (mapped_cell f) cs)) ≡ count (forest cs)
  count-forest [] = refl
  count-forest (Var n ∷ cs) = ap suc (count-forest cs)
  count-forest (Int z ∷ cs) = ap suc (count-forest cs)
  count-forest (Name s ∷ cs) = ap suc (count-forest cs)
  count-forest (Comp s k ∷ cs) =
      omega (arith, count-forest cs, count-back k (forest (map (mapped_cell f) cs)), count-back k (forest cs))

  still_forest : (cs : List Cell) → IsForest cs → IsForest (map (mapped_cell f) cs)
  still_forest [] h = tt
  still_forest (Var n ∷ cs) h = still_forest cs h
  still_forest (Int z ∷ cs) h = still_forest cs h
  still_forest (Name s ∷ cs) h = still_forest cs h
  still_forest (Comp s k ∷ cs) h = (h.0, subst (λ n. k ≤ n) (sym (count-forest cs)) h.1, still_forest cs h.2)

  pub still_term : (cs : List Cell) → IsTerm cs → IsTerm (map (mapped_cell f) cs)
  still_term cs h = record { whole = still_forest cs h.whole; one = count-forest cs ∙ h.one }

  pub still_cell : (c : Cell) → IsCell c → IsCell (mapped_cell f c)
  still_cell (Var n) h = tt
  still_cell (Int z) h = tt
  still_cell (Name s) h = tt
  still_cell (Comp s k) h = h

  -- a whole copy
  pub whole_copy : (cs copy : List Cell) (i : ℕ) → length cs ≤ i → copy ≡ map (mapped_cell f) (take i cs) → copy ≡ map (mapped_cell f) cs
  whole_copy cs copy i ended was = was ∙ ap (map (mapped_cell f)) (take_all i cs ended)

-- each cell of whole trees is a cell
rest_whole : (c : Cell) (cs : List Cell) → IsForest (c ∷ cs) → IsForest cs
rest_whole (Var n) cs h = h
rest_whole (Int z) cs h = h
rest_whole (Name s) cs h = h
rest_whole (Comp s k) cs h = h.2

first_whole : (c : Cell) (cs : List Cell) → IsForest (c ∷ cs) → IsCell c
first_whole (Var n) cs h = tt
first_whole (Int z) cs h = tt
first_whole (Name s) cs h = tt
first_whole (Comp s k) cs h = h.0

pub cell_at : (cs : List Cell) (i : ℕ) (d : Cell) → IsForest cs → i < length cs → IsCell (get_or cs i d)
cell_at [] i d h within = absurd (omega arith)
cell_at (c ∷ cs) zero d h within = first_whole c cs h
cell_at (c ∷ cs) (suc i) d h within = cell_at cs i d (rest_whole c cs h) (omega arith)

-- ---- names of cells

mutual
  cells_below : (n : ℕ) (t : Tree ℕ) → AllBelow n (tree_names t) → AllByRecursion (CellBelow n) (cells t)
  cells_below n (var v) h = (tt, tt)
  cells_below n (int z) h = (tt, tt)
  cells_below n (atom s) h = (h.0, tt)
  cells_below n (comp s ts) h = (h.0, all_cells_below n ts h.1)

  all_cells_below : (n : ℕ) (ts : Trees ℕ) → AllBelow n (trees_names ts) → AllByRecursion (CellBelow n) (all_cells ts)
  all_cells_below n nil h = tt
  all_cells_below n (cons t ts) h =
      let p = AllBy-parts (λ (k : ℕ). k < n) (tree_names t) (trees_names ts) h in
      all_append (CellBelow n) (cells t) (all_cells ts) (cells_below n t p.0) (all_cells_below n ts p.1)

each_below : (n : ℕ) (cs : List Cell) (i : ℕ) (d : Cell) → i < length cs → AllByRecursion (CellBelow n) cs → CellBelow n (get_or cs i d)
each_below n [] i d lt h = absurd (omega arith)
each_below n (c ∷ cs) zero d lt h = h.0
each_below n (c ∷ cs) (suc i) d lt h = each_below n cs i d (omega arith) h.1

pub cell_below : (n : ℕ) (t : Tree ℕ) (cs : List Cell) (i : ℕ) (d : Cell) → cs ≡ cells t → i < length cs → AllBelow n (tree_names t) → CellBelow n (get_or cs i d)
cell_below n t cs i d e lt h = each_below n cs i d lt (subst (AllByRecursion (CellBelow n)) (sym e) (cells_below n t h))

-- ---- heads by their first cells

pub begins : (t : Tree ℕ) → begun (cells t) ≡ head_indicator t
begins (var n) = refl
begins (int z) = refl
begins (atom s) = refl
begins (comp s ts) = refl

pub is_begun-cells : (t : Tree ℕ) → is_begun (cells t) ≡ is_head t
is_begun-cells (var n) = refl
is_begun-cells (int z) = refl
is_begun-cells (atom s) = refl
is_begun-cells (comp s ts) = refl
