-- Cells of terms that are copied.
use Rattle.std.proofs.Common.{◌≡◌, ℕ, zero, suc, ◌<◌, ◌≤◌, List, [], ◌∷◌, length, take, get_or, refl, sym, ap, ◌∙◌, arith}
use Rattle.pl_terms.specs.Trees.{Tree}
use Rattle.pl_terms.specs.Cells.{cells, IsForest, IsCell, tree_of}
use Rattle.pl_terms.specs.Forest.{tree_of-cells}
use Rattle.pl_terms.specs.declared.cell.Cell.{Cell}
use Rattle.pl_terms.specs.declared.cell.Cell.TheVariants.{Var, Int, Name, Comp}

pub cell_at : (cs : List Cell) (i : ℕ) (x : Cell) → IsForest cs → i < length cs → IsCell (get_or cs i x)
cell_at [] i x h lt = absurd (omega arith)
cell_at (Var n ∷ cs) zero x h lt = tt
cell_at (Int z ∷ cs) zero x h lt = tt
cell_at (Name s ∷ cs) zero x h lt = tt
cell_at (Comp s k ∷ cs) zero x h lt = h.0
cell_at (Var n ∷ cs) (suc i) x h lt = cell_at cs i x h (omega arith)
cell_at (Int z ∷ cs) (suc i) x h lt = cell_at cs i x h (omega arith)
cell_at (Name s ∷ cs) (suc i) x h lt = cell_at cs i x h (omega arith)
cell_at (Comp s k ∷ cs) (suc i) x h lt = cell_at cs i x h.2 (omega arith)

pub whole_copy : {A : Type 0} (xs : List A) (i : ℕ) → length xs ≤ i → take i xs ≡ xs
whole_copy [] zero h = refl
whole_copy [] (suc i) h = refl
whole_copy (x ∷ xs) zero h = absurd (omega arith)
whole_copy {A} (x ∷ xs) (suc i) h = ap (λ (l : List A). x ∷ l) (whole_copy xs i (omega arith))

pub same_tree : (t u : Tree ℕ) → cells t ≡ cells u → t ≡ u
same_tree t u e = sym (tree_of-cells t) ∙ ap tree_of e ∙ tree_of-cells u
