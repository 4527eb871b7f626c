-- The cells of a tree are one whole term.
use Rattle.std.proofs.Common.{◌≡◌, ℕ, suc, ◌+◌, ◌≤◌, List, [], ◌∷◌, ◌++◌, All, sym, ap, ◌∙◌, arith, subst, append_assoc}
use Rattle.pl_terms.specs.Trees.{Tree, var, int, atom, comp, Trees, nil, cons, count, append}
use Rattle.pl_terms.specs.Cells.{cells, all_cells, forest, IsForest, IsTerm, IsCell}
use Rattle.pl_terms.specs.Forest.{forest-cells, forest-all_cells, append-nil}
use Rattle.pl_terms.specs.declared.cell.Cell.{Cell}
use Rattle.pl_terms.specs.declared.cell.Cell.TheVariants.{Var}

All-rest : {X : Type 0} (P : X → Type 0) (x : X) (xs : List X) → All P (x ∷ xs) → All P xs
All-rest P x xs h = λ k d within. h (suc k) d (omega arith)

All-after : {X : Type 0} (P : X → Type 0) (xs ys : List X) → All P (xs ++ ys) → All P ys
All-after P [] ys h = h
All-after P (x ∷ xs) ys h = All-after P xs ys (All-rest P x (xs ++ ys) h)

count-append : {N : Type 0} (ts us : Trees N) → count (append ts us) ≡ count ts + count us
count-append nil us = omega arith
count-append (cons t ts) us = omega (arith, count-append ts us)

mutual
  IsForest-cells : (t : Tree ℕ) (cs : List Cell) → All IsCell (cells t ++ cs) → IsForest cs → IsForest (cells t ++ cs)
  IsForest-cells (var n) cs h f = f
  IsForest-cells (int z) cs h f = f
  IsForest-cells (atom s) cs h f = f
  IsForest-cells (comp s ts) cs h f = (
    h 0 (Var 0) (omega arith),
    subst (λ n. count ts ≤ n) (sym (ap count (forest-all_cells ts cs))) (omega (arith, count-append ts (forest cs))),
    IsForest-all_cells ts cs (All-rest IsCell _ _ h) f,
  )

  IsForest-all_cells : (ts : Trees ℕ) (cs : List Cell) → All IsCell (all_cells ts ++ cs) → IsForest cs → IsForest (all_cells ts ++ cs)
  IsForest-all_cells nil cs h f = f
  IsForest-all_cells (cons t ts) cs h f =
      let same = append_assoc (cells t) (all_cells ts) cs in
      let all = subst (All IsCell) same h in
      subst IsForest (sym same) (IsForest-cells t (all_cells ts ++ cs) all (IsForest-all_cells ts cs (All-after IsCell (cells t) (all_cells ts ++ cs) all) f))

pub IsTerm-cells : (t : Tree ℕ) → All IsCell (cells t) → IsTerm (cells t)
IsTerm-cells t h = record {
  whole = subst IsForest (append-nil (cells t)) (IsForest-cells t [] (subst (All IsCell) (sym (append-nil (cells t))) h) tt);
  one = ap (λ cs. count (forest cs)) (sym (append-nil (cells t))) ∙ ap count (forest-cells t []);
}
