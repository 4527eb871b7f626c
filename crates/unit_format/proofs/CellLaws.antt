-- The cells and the trees of a term give each other back.
use Rattle.std.proofs.Common.{◌≡◌, ℕ, zero, suc, ◌+◌, ◌-◌, ◌≤◌, List, [], ◌∷◌, ◌++◌, All, refl, sym, ap, ◌∙◌, arith, subst, append_assoc}
use Rattle.pl_terms.specs.Trees.{Tree, var, int, atom, comp, Trees, nil, cons, count, append, front, back}
use Rattle.pl_terms.specs.Cells.{cells, all_cells, forest, IsForest, IsTerm, IsCell, first, tree_of}
use Rattle.pl_terms.specs.Forest.{forest-cells, forest-all_cells, append-nil}
use Rattle.pl_terms.specs.declared.cell.Cell.{Cell}
use Rattle.pl_terms.specs.declared.cell.Cell.TheVariants.{Var, Int, Name, Comp}

pub count-back : {N : Type 0} (k : ℕ) (ts : Trees N) → count (back k ts) ≡ count ts - k
count-back zero ts = omega arith
count-back (suc k) nil = omega arith
count-back (suc k) (cons t ts) = omega (arith, count-back k ts)

count-front : {N : Type 0} (k : ℕ) (ts : Trees N) → k ≤ count ts → count (front k ts) ≡ k
count-front zero ts h = refl
count-front (suc k) nil h = absurd (omega arith)
count-front (suc k) (cons t ts) h = ap suc (count-front k ts (omega arith))

all_cells-split : (k : ℕ) (ts : Trees ℕ) → all_cells (front k ts) ++ all_cells (back k ts) ≡ all_cells ts
all_cells-split zero ts = refl
all_cells-split (suc k) nil = refl
all_cells-split (suc k) (cons t ts) =
    append_assoc (cells t) (all_cells (front k ts)) (all_cells (back k ts)) ∙ ap (λ cs. cells t ++ cs) (all_cells-split k ts)

all_cells-forest : (cs : List Cell) → IsForest cs → all_cells (forest cs) ≡ cs
all_cells-forest [] h = refl
all_cells-forest (Var n ∷ cs) h = ap (λ l. Var n ∷ l) (all_cells-forest cs h)
all_cells-forest (Int z ∷ cs) h = ap (λ l. Int z ∷ l) (all_cells-forest cs h)
all_cells-forest (Name s ∷ cs) h = ap (λ l. Name s ∷ l) (all_cells-forest cs h)
all_cells-forest (Comp s k ∷ cs) h =
    ap (λ n. Comp s n ∷ (all_cells (front k (forest cs)) ++ all_cells (back k (forest cs)))) (count-front k (forest cs) h.1)
    ∙ ap (λ l. Comp s k ∷ l) (all_cells-split k (forest cs) ∙ all_cells-forest cs h.2)

-- one tree is the first
all_cells-one : (ts : Trees ℕ) → count ts ≡ 1 → cells (first ts) ≡ all_cells ts
all_cells-one nil h = absurd (omega arith)
all_cells-one (cons t nil) h = sym (append-nil (cells t))
all_cells-one (cons t (cons u us)) h = absurd (omega arith)

-- cells of one whole term are those of their tree
pub cells-tree_of : (cs : List Cell) → IsTerm cs → cells (tree_of cs) ≡ cs
cells-tree_of cs h = all_cells-one (forest cs) h.one ∙ all_cells-forest cs h.whole

All-rest : {X : Type 0} (P : X → Type 0) (x : X) (xs : List X) → All P (x ∷ xs) → All P xs
All-rest P x xs h = λ k d within. h (suc k) d (omega arith)

All-after : {X : Type 0} (P : X → Type 0) (xs ys : List X) → All P (xs ++ ys) → All P ys
All-after P [] ys h = h
All-after P (x ∷ xs) ys h = All-after P xs ys (All-rest P x (xs ++ ys) h)

count-append : {N : Type 0} (ts us : Trees N) → count (append ts us) ≡ count ts + count us
count-append nil us = omega arith
count-append (cons t ts) us = omega (arith, count-append ts us)

mutual
  IsForest-cells : (t : Tree ℕ) (cs : List Cell) → All IsCell (cells t ++ cs) → IsForest cs → IsForest (cells t ++ cs)
  IsForest-cells (var n) cs h f = f
  IsForest-cells (int z) cs h f = f
  IsForest-cells (atom s) cs h f = f
  IsForest-cells (comp s ts) cs h f = (
    h 0 (Var 0) (omega arith),
    subst (λ n. count ts ≤ n) (sym (ap count (forest-all_cells ts cs))) (omega (arith, count-append ts (forest cs))),
    IsForest-all_cells ts cs (All-rest IsCell _ _ h) f,
  )

  IsForest-all_cells : (ts : Trees ℕ) (cs : List Cell) → All IsCell (all_cells ts ++ cs) → IsForest cs → IsForest (all_cells ts ++ cs)
  IsForest-all_cells nil cs h f = f
  IsForest-all_cells (cons t ts) cs h f =
      let same = append_assoc (cells t) (all_cells ts) cs in
      let all = subst (All IsCell) same h in
      subst IsForest (sym same) (IsForest-cells t (all_cells ts ++ cs) all (IsForest-all_cells ts cs (All-after IsCell (cells t) (all_cells ts ++ cs) all) f))

-- the cells of a tree are one whole term
pub IsTerm-cells : (t : Tree ℕ) → All IsCell (cells t) → IsTerm (cells t)
IsTerm-cells t h = record {
  whole = subst IsForest (append-nil (cells t)) (IsForest-cells t [] (subst (All IsCell) (sym (append-nil (cells t))) h) tt);
  one = ap (λ cs. count (forest cs)) (sym (append-nil (cells t))) ∙ ap count (forest-cells t []);
}
