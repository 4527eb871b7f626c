-- The cells of trees give the trees back.
use Rattle.std.proofs.Common.{◌≡◌, ℕ, List, [], ◌∷◌, ◌++◌, refl, sym, ap, ◌∙◌, append_assoc}
use Rattle.pl_terms.specs.Trees.{Tree, var, int, atom, comp, Trees, nil, cons, count, append, front, back}
use Rattle.pl_terms.specs.Cells.{cells, all_cells, forest, first, tree_of}
use Rattle.pl_terms.specs.declared.cell.Cell.{Cell}

pub front-append : {N : Type 0} (ts us : Trees N) → front (count ts) (append ts us) ≡ ts
front-append nil us = refl
front-append (cons t ts) us = ap (cons t) (front-append ts us)

pub back-append : {N : Type 0} (ts us : Trees N) → back (count ts) (append ts us) ≡ us
back-append nil us = refl
back-append (cons t ts) us = back-append ts us

mutual
  pub forest-cells : (t : Tree ℕ) (cs : List Cell) → forest (cells t ++ cs) ≡ cons t (forest cs)
  forest-cells (var n) cs = refl
  forest-cells (int z) cs = refl
  forest-cells (atom s) cs = refl
  forest-cells (comp s ts) cs =
      ap (λ f. cons (comp s (front (count ts) f)) (back (count ts) f)) (forest-all_cells ts cs)
      ∙ ap (λ us. cons (comp s us) (back (count ts) (append ts (forest cs)))) (front-append ts (forest cs))
      ∙ ap (cons (comp s ts)) (back-append ts (forest cs))

  pub forest-all_cells : (ts : Trees ℕ) (cs : List Cell) → forest (all_cells ts ++ cs) ≡ append ts (forest cs)
  forest-all_cells nil cs = refl
  forest-all_cells (cons t ts) cs =
      ap forest (append_assoc (cells t) (all_cells ts) cs)
      ∙ forest-cells t (all_cells ts ++ cs)
      ∙ ap (cons t) (forest-all_cells ts cs)

-- a tree's cells give it back
pub append-nil : (ts : List Cell) → ts ++ [] ≡ ts
append-nil [] = refl
append-nil (c ∷ cs) = ap (λ l. c ∷ l) (append-nil cs)

pub tree_of-cells : (t : Tree ℕ) → tree_of (cells t) ≡ t
tree_of-cells t = ap tree_of (sym (append-nil (cells t))) ∙ ap first (forest-cells t [])
