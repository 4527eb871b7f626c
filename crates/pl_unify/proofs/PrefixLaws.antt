-- A tree's cells in prefix order make that tree.
use Rattle.std.specs.Prelude.{◌≡◌, ◌≤◌, zero, suc, length, map, ℕ, List, [], ◌∷◌, ◌++◌, take, drop, refl}
use Rattle.std.proofs.Common.{ap, get_or, ◌∙◌, sym, append_assoc, arith, subst}
use Rattle.std.proofs.lemmas.List.{append-nil, length-append}
use Rattle.pl_terms.specs.declared.cell.Cell.{Cell}
use Rattle.pl_terms.specs.declared.cell.Cell.TheVariants.{Var, Int, Name, Comp}
use Rattle.pl_terms.specs.Trees.{Tree, Trees, var, int, atom, comp, nil, cons, count}
use Rattle.unifier_model.specs.Substitution.{raise, raise_all}
use Rattle.pl_unify.specs.Prefix.{trees, listed, with_cell, build}
use Rattle.pl_terms.specs.Cells.{cells, all_cells, IsForest, IsCell}

pub trees-take : (ts : Trees ℕ) (xs : List (Tree ℕ)) → trees (take (count ts) (listed ts ++ xs)) ≡ ts
trees-take nil xs = refl
trees-take (cons t ts) xs = ap (λ r. cons t r) (trees-take ts xs)

pub drop-listed : (ts : Trees ℕ) (xs : List (Tree ℕ)) → drop (count ts) (listed ts ++ xs) ≡ xs
drop-listed nil xs = refl
drop-listed (cons t ts) xs = drop-listed ts xs

mutual
  pub build-cells : (t : Tree ℕ) (rest : List Cell) → build (cells t ++ rest) ≡ t ∷ build rest
  build-cells (var n) rest = refl
  build-cells (int z) rest = refl
  build-cells (atom a) rest = refl
  build-cells (comp f ts) rest =
      ap (with_cell (Comp (record { 0 = f }) (count ts))) (build-all_cells ts rest)
      ∙ (ap (λ r. comp f r ∷ drop (count ts) (listed ts ++ build rest)) (trees-take ts (build rest))
      ∙ ap (λ r. comp f ts ∷ r) (drop-listed ts (build rest)))

  pub build-all_cells : (ts : Trees ℕ) (rest : List Cell) → build (all_cells ts ++ rest) ≡ listed ts ++ build rest
  build-all_cells nil rest = refl
  build-all_cells (cons t ts) rest =
      ap build (append_assoc (cells t) (all_cells ts) rest)
      ∙ (build-cells t (all_cells ts ++ rest) ∙ ap (λ r. t ∷ r) (build-all_cells ts rest))

-- each compound has its arguments behind it
abbrev pub Enough : List Cell → Type 0
Enough [] = Unit {0}
Enough (Var n ∷ cs) = Enough cs
Enough (Int z ∷ cs) = Enough cs
Enough (Name a ∷ cs) = Enough cs
Enough (Comp f k ∷ cs) = (k ≤ length (build cs)) × Enough cs

pub length-listed : (ts : Trees ℕ) → length (listed ts) ≡ count ts
length-listed nil = refl
length-listed (cons t ts) = ap suc (length-listed ts)

mutual
  pub Enough-cells : (t : Tree ℕ) (rest : List Cell) → Enough rest → Enough (cells t ++ rest)
  Enough-cells (var n) rest h = h
  Enough-cells (int z) rest h = h
  Enough-cells (atom a) rest h = h
  Enough-cells (comp f ts) rest h =
      (omega (arith, ap length (build-all_cells ts rest), length-append (listed ts) (build rest), length-listed ts), Enough-all_cells ts rest h)

  pub Enough-all_cells : (ts : Trees ℕ) (rest : List Cell) → Enough rest → Enough (all_cells ts ++ rest)
  Enough-all_cells nil rest h = h
  Enough-all_cells (cons t ts) rest h = rw (append_assoc (cells t) (all_cells ts) rest) (Enough-cells t (all_cells ts ++ rest) (Enough-all_cells ts rest h))

pub Enough-tree : (t : Tree ℕ) → Enough (cells t)
Enough-tree t = subst Enough (append-nil (cells t)) (Enough-cells t [] tt)

pub Enough-drop : (i : ℕ) (cs : List Cell) → Enough cs → Enough (drop i cs)
Enough-drop zero cs h = h
Enough-drop (suc i) [] h = tt
Enough-drop (suc i) (Var n ∷ cs) h = Enough-drop i cs h
Enough-drop (suc i) (Int n ∷ cs) h = Enough-drop i cs h
Enough-drop (suc i) (Name n ∷ cs) h = Enough-drop i cs h
Enough-drop (suc i) (Comp f k ∷ cs) h = Enough-drop i cs h.1

pub build-tree : (t : Tree ℕ) → build (cells t) ≡ t ∷ []
build-tree t = ap build (sym (append-nil (cells t))) ∙ build-cells t []

pub trees-raise : (base : ℕ) (ts : List (Tree ℕ)) → raise_all base (trees ts) ≡ trees (map (raise base) ts)
trees-raise base [] = refl
trees-raise base (t ∷ ts) = ap (cons (raise base t)) (trees-raise base ts)

-- each cell of a term has the arguments that it needs
pub IsCell-forest : (i : ℕ) (cs : List Cell) → IsForest cs → IsCell (get_or cs i (Var 0))
IsCell-forest i [] h = tt
IsCell-forest zero (Var n ∷ cs) h = tt
IsCell-forest zero (Int n ∷ cs) h = tt
IsCell-forest zero (Name n ∷ cs) h = tt
IsCell-forest zero (Comp f k ∷ cs) h = h.0
IsCell-forest (suc i) (Var n ∷ cs) h = IsCell-forest i cs h
IsCell-forest (suc i) (Int n ∷ cs) h = IsCell-forest i cs h
IsCell-forest (suc i) (Name n ∷ cs) h = IsCell-forest i cs h
IsCell-forest (suc i) (Comp f k ∷ cs) h = IsCell-forest i cs h.2
