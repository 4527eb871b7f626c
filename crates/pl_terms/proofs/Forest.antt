-- The cells of trees, and the trees of cells, give each other back.
use Rattle.std.proofs.Common.{◌≡◌, ℕ, zero, suc, ◌≤◌, List, [], ◌∷◌, ◌++◌, refl, sym, ap, ◌∙◌, arith, append_assoc}
use Rattle.pl_terms.specs.Trees.{Trees, nil, cons, count, front, back}
use Rattle.pl_terms.specs.Cells.{cells, all_cells, forest, IsForest, IsTerm, first, tree_of}
use Rattle.pl_terms.specs.declared.cell.Cell.{Cell}
use Rattle.pl_terms.specs.declared.cell.Cell.TheVariants.{Var, Int, Name, Comp}
use Rattle.pl_terms.specs.Forest.{append-nil}

pub count-front : {N : Type 0} (k : ℕ) (ts : Trees N) → k ≤ count ts → count (front k ts) ≡ k
count-front zero ts h = refl
count-front (suc k) nil h = absurd (omega arith)
count-front (suc k) (cons t ts) h = ap suc (count-front k ts (omega arith))

pub all_cells-split : (k : ℕ) (ts : Trees ℕ) → all_cells (front k ts) ++ all_cells (back k ts) ≡ all_cells ts
all_cells-split zero ts = refl
all_cells-split (suc k) nil = refl
all_cells-split (suc k) (cons t ts) =
    append_assoc (cells t) (all_cells (front k ts)) (all_cells (back k ts)) ∙ ap (λ cs. cells t ++ cs) (all_cells-split k ts)

pub all_cells-forest : (cs : List Cell) → IsForest cs → all_cells (forest cs) ≡ cs
all_cells-forest [] h = refl
all_cells-forest (Var n ∷ cs) h = ap (λ l. Var n ∷ l) (all_cells-forest cs h)
all_cells-forest (Int z ∷ cs) h = ap (λ l. Int z ∷ l) (all_cells-forest cs h)
all_cells-forest (Name s ∷ cs) h = ap (λ l. Name s ∷ l) (all_cells-forest cs h)
all_cells-forest (Comp s k ∷ cs) h =
    ap (λ n. Comp s n ∷ (all_cells (front k (forest cs)) ++ all_cells (back k (forest cs)))) (count-front k (forest cs) h.1)
    ∙ ap (λ l. Comp s k ∷ l) (all_cells-split k (forest cs) ∙ all_cells-forest cs h.2)

-- one tree is the first
all_cells-one : (ts : Trees ℕ) → count ts ≡ 1 → cells (first ts) ≡ all_cells ts
all_cells-one nil h = absurd (omega arith)
all_cells-one (cons t nil) h = sym (append-nil (cells t))
all_cells-one (cons t (cons u us)) h = absurd (omega arith)

-- cells of one whole term are those of their tree
pub cells-tree_of : (cs : List Cell) → IsTerm cs → cells (tree_of cs) ≡ cs
cells-tree_of cs h = all_cells-one (forest cs) h.one ∙ all_cells-forest cs h.whole
