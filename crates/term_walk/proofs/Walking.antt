-- Going over cells from the left.
use Rattle.std.proofs.Common.{◌≡◌, ℕ, zero, suc, ◌+◌, ◌-◌, ◌≤◌, ◌<◌, List, [], ◌∷◌, ◌++◌, length, take, drop, get_or, slice_get, All, refl, sym, ap, ◌∙◌, arith, subst, append_assoc, length-drop, length-append, Some, Bool, true, false, not, ◌↔◌, IsTrue, ◌==◌}
use Rattle.std.proofs.lemmas.Bool.{eqb-true}
use Rattle.std.proofs.Math.Seq.{drop-cons, take-suc}
use Rattle.std.proofs.lemmas.List.Elements.{All-nil, All-cons}
use Rattle.pl_terms.specs.Trees.{Tree, var, int, atom, comp, Trees, nil, cons, count, append, front, back}
use Rattle.pl_terms.specs.Cells.{cells, all_cells, forest, first, IsForest, IsCell}
use Rattle.pl_terms.specs.Forest.{append-nil, forest-cells}
use Rattle.pl_terms.specs.declared.cell.Cell.{Cell}
use Rattle.pl_terms.specs.declared.cell.Cell.TheVariants.{Var, Int, Name, Comp}
use Rattle.term_walk.specs.Walks.{first_cell, entered, size, arity_of}

pub count-front : {N : Type 0} (k : ℕ) (ts : Trees N) → k ≤ count ts → count (front k ts) ≡ k
count-front zero ts h = refl
count-front (suc k) nil h = absurd (omega arith)
count-front (suc k) (cons t ts) h = ap suc (count-front k ts (omega arith))

pub count-back : {N : Type 0} (k : ℕ) (ts : Trees N) → count (back k ts) ≡ count ts - k
count-back zero ts = omega arith
count-back (suc k) nil = omega arith
count-back (suc k) (cons t ts) = omega (arith, count-back k ts)

append-front-back : {N : Type 0} (k : ℕ) (ts : Trees N) → append (front k ts) (back k ts) ≡ ts
append-front-back zero ts = refl
append-front-back (suc k) nil = refl
append-front-back (suc k) (cons t ts) = ap (cons t) (append-front-back k ts)

back-nil : (m : ℕ) → ◌≡◌ {A = Trees ℕ} (back m nil) nil
back-nil zero = refl
back-nil (suc m) = refl

front-nil : (m : ℕ) → ◌≡◌ {A = Trees ℕ} (front m nil) nil
front-nil zero = refl
front-nil (suc m) = refl

suc-plus : (k n : ℕ) → suc k + n ≡ suc (k + n)
suc-plus k n = omega arith

zero-plus : (n : ℕ) → 0 + n ≡ n
zero-plus n = omega arith

back-back : (k n : ℕ) (ts : Trees ℕ) → back n (back k ts) ≡ back (k + n) ts
back-back zero n ts = ap (λ m. back m ts) (sym (zero-plus n))
back-back (suc k) n nil = back-nil n ∙ ap (λ m. back m nil) (sym (suc-plus k n))
back-back (suc k) n (cons t ts) = back-back k n ts ∙ ap (λ m. back m (cons t ts)) (sym (suc-plus k n))

front-sum : (k n : ℕ) (ts : Trees ℕ) → all_cells (front k ts) ++ all_cells (front n (back k ts)) ≡ all_cells (front (k + n) ts)
front-sum zero n ts = ap (λ m. all_cells (front m ts)) (sym (zero-plus n))
front-sum (suc k) n nil = ap all_cells (front-nil n) ∙ ap (λ m. all_cells (front m nil)) (sym (suc-plus k n))
front-sum (suc k) n (cons t ts) =
    append_assoc (cells t) (all_cells (front k ts)) (all_cells (front n (back k ts)))
    ∙ ap (λ l. cells t ++ l) (front-sum k n ts)
    ∙ ap (λ m. all_cells (front m (cons t ts))) (sym (suc-plus k n))

-- one cell at the front
pub first_cell-is : (c : Cell) (cs : List Cell) → IsForest (c ∷ cs) → first_cell (forest (c ∷ cs)) ≡ Some c
first_cell-is (Var n) cs h = refl
first_cell-is (Int z) cs h = refl
first_cell-is (Name s) cs h = refl
first_cell-is (Comp s k) cs h = ap (λ n. Some (Comp s n)) (count-front k (forest cs) h.1)

pub entered-is : (c : Cell) (cs : List Cell) → entered (forest (c ∷ cs)) ≡ forest cs
entered-is (Var n) cs = refl
entered-is (Int z) cs = refl
entered-is (Name s) cs = refl
entered-is (Comp s k) cs = append-front-back k (forest cs)

pub some_tree : (c : Cell) (cs : List Cell) → 0 < count (forest (c ∷ cs))
some_tree (Var n) cs = omega arith
some_tree (Int z) cs = omega arith
some_tree (Name s) cs = omega arith
some_tree (Comp s k) cs = omega arith

pub IsForest-rest : (c : Cell) (cs : List Cell) → IsForest (c ∷ cs) → IsForest cs
IsForest-rest (Var n) cs h = h
IsForest-rest (Int z) cs h = h
IsForest-rest (Name s) cs h = h
IsForest-rest (Comp s k) cs h = h.2

pub IsForest-drop : (i : ℕ) (cs : List Cell) → IsForest cs → IsForest (drop i cs)
IsForest-drop zero cs h = h
IsForest-drop (suc i) [] h = h
IsForest-drop (suc i) (c ∷ cs) h = IsForest-drop i cs (IsForest-rest c cs h)

IsCell-first : (c : Cell) (cs : List Cell) → IsForest (c ∷ cs) → IsCell c
IsCell-first (Var n) cs h = tt
IsCell-first (Int z) cs h = tt
IsCell-first (Name s) cs h = tt
IsCell-first (Comp s k) cs h = h.0

pub IsForest-IsCell : (cs : List Cell) → IsForest cs → All IsCell cs
IsForest-IsCell [] h = All-nil IsCell
IsForest-IsCell (c ∷ cs) h = All-cons IsCell c cs (IsCell-first c cs h) (IsForest-IsCell cs (IsForest-rest c cs h))

-- the cells of a forest
pub size-forest : (cs : List Cell) → IsForest cs → all_cells (forest cs) ≡ cs
size-forest [] h = refl
size-forest (Var n ∷ cs) h = ap (λ l. Var n ∷ l) (size-forest cs h)
size-forest (Int z ∷ cs) h = ap (λ l. Int z ∷ l) (size-forest cs h)
size-forest (Name s ∷ cs) h = ap (λ l. Name s ∷ l) (size-forest cs h)
size-forest (Comp s k ∷ cs) h =
    ap (λ n. Comp s n ∷ (all_cells (front k (forest cs)) ++ all_cells (back k (forest cs)))) (count-front k (forest cs) h.1)
    ∙ ap (λ l. Comp s k ∷ l) (all_cells-split k (forest cs) ∙ size-forest cs h.2)
  where
    all_cells-split : (k : ℕ) (ts : Trees ℕ) → all_cells (front k ts) ++ all_cells (back k ts) ≡ all_cells ts
    all_cells-split zero ts = refl
    all_cells-split (suc k) nil = refl
    all_cells-split (suc k) (cons t ts) =
        append_assoc (cells t) (all_cells (front k ts)) (all_cells (back k ts)) ∙ ap (λ cs. cells t ++ cs) (all_cells-split k ts)

-- cells of the first tree, of which so many trees are still to come
pub record Going (cs : List Cell) (at pending : ℕ) : Type 0 where
  pub in_range : at ≤ length cs
  pub whole : IsForest (drop at cs)
  pub enough : pending ≤ count (forest (drop at cs))
  pub tree : take at cs ++ all_cells (front pending (forest (drop at cs))) ≡ all_cells (front 1 (forest cs))
  pub rest : back pending (forest (drop at cs)) ≡ back 1 (forest cs)

pub count-forest_le : (cs : List Cell) → count (forest cs) ≤ length cs
count-forest_le [] = omega arith
count-forest_le (Var n ∷ cs) = omega (arith, count-forest_le cs)
count-forest_le (Int z ∷ cs) = omega (arith, count-forest_le cs)
count-forest_le (Name s ∷ cs) = omega (arith, count-forest_le cs)
count-forest_le (Comp s k ∷ cs) = omega (arith, count-forest_le cs, count-back k (forest cs))

front-step : (c : Cell) (cs : List Cell) (p : ℕ) → IsForest (c ∷ cs) → all_cells (front (suc p) (forest (c ∷ cs))) ≡ c ∷ all_cells (front (arity_of c + p) (forest cs))
front-step (Var n) cs p h = ap (λ m. Var n ∷ all_cells (front m (forest cs))) (sym (zero-plus p))
front-step (Int z) cs p h = ap (λ m. Int z ∷ all_cells (front m (forest cs))) (sym (zero-plus p))
front-step (Name s) cs p h = ap (λ m. Name s ∷ all_cells (front m (forest cs))) (sym (zero-plus p))
front-step (Comp s k) cs p h =
    ap (λ n. Comp s n ∷ (all_cells (front k (forest cs)) ++ all_cells (front p (back k (forest cs))))) (count-front k (forest cs) h.1)
    ∙ ap (λ l. Comp s k ∷ l) (front-sum k p (forest cs))

back-step : (c : Cell) (cs : List Cell) (p : ℕ) → back (suc p) (forest (c ∷ cs)) ≡ back (arity_of c + p) (forest cs)
back-step (Var n) cs p = ap (λ m. back m (forest cs)) (sym (zero-plus p))
back-step (Int z) cs p = ap (λ m. back m (forest cs)) (sym (zero-plus p))
back-step (Name s) cs p = ap (λ m. back m (forest cs)) (sym (zero-plus p))
back-step (Comp s k) cs p = back-back k p (forest cs)

enough-step : (c : Cell) (cs : List Cell) (p : ℕ) → IsForest (c ∷ cs) → suc p ≤ count (forest (c ∷ cs)) → arity_of c + p ≤ count (forest cs)
enough-step (Var n) cs p h e = omega arith
enough-step (Int z) cs p h e = omega arith
enough-step (Name s) cs p h e = omega arith
enough-step (Comp s k) cs p h e = omega (arith, count-back k (forest cs), h.1)

pub Going-start : (cs : List Cell) → IsForest cs → 0 < count (forest cs) → Going cs 0 1
Going-start cs h some = record { in_range = omega arith; whole = h; enough = omega arith; tree = refl; rest = refl }

pub Going-within : (cs : List Cell) (at pending : ℕ) → 0 < pending → Going cs at pending → at < length cs
Going-within cs at pending some g = omega (arith, g.enough, count-forest_le (drop at cs), length-drop at cs)

Going-more : (cs : List Cell) (at p next pending : ℕ) (c d : Cell) → get_or cs at d ≡ c → next ≡ suc at → pending ≡ arity_of c + p → Going cs at (suc p) → Going cs next pending
Going-more cs at p next pending c d is e f g =
    let within : at < length cs = Going-within cs at (suc p) (omega arith) g in
    let split : drop at cs ≡ c ∷ drop (suc at) cs = drop-cons cs at d within ∙ ap (λ x. x ∷ drop (suc at) cs) is in
    let taken : take (suc at) cs ≡ take at cs ++ c ∷ [] = take-suc cs at d within ∙ ap (λ x. take at cs ++ x ∷ []) is in
    let whole : IsForest (c ∷ drop (suc at) cs) = subst IsForest split g.whole in
    let done : Going cs (suc at) (arity_of c + p) = record {
      in_range = omega arith;
      whole = IsForest-rest c (drop (suc at) cs) whole;
      enough = enough-step c (drop (suc at) cs) p whole (subst (λ l. suc p ≤ count (forest l)) split g.enough);
      tree =
          ap (λ l. l ++ all_cells (front (arity_of c + p) (forest (drop (suc at) cs)))) taken
          ∙ append_assoc (take at cs) (c ∷ []) (all_cells (front (arity_of c + p) (forest (drop (suc at) cs))))
          ∙ ap (λ l. take at cs ++ l) (sym (front-step c (drop (suc at) cs) p whole))
          ∙ ap (λ l. take at cs ++ all_cells (front (suc p) (forest l))) (sym split)
          ∙ g.tree;
      rest = sym (back-step c (drop (suc at) cs) p) ∙ ap (λ l. back (suc p) (forest l)) (sym split) ∙ g.rest;
    } in
    subst (λ n. Going cs n pending) (sym e) (subst (λ n. Going cs (suc at) n) (sym f) done)

pub Going-step : (cs : List Cell) (at old next pending : ℕ) (c d : Cell) → get_or cs at d ≡ c → next ≡ suc at → 0 < old → pending ≡ arity_of c + (old - 1) → Going cs at old → Going cs next pending
Going-step cs at zero next pending c d is e some f g = absurd (omega arith)
Going-step cs at (suc p) next pending c d is e some f g = Going-more cs at p next pending c d is e (omega arith) g

pub first-cells : (ts : Trees ℕ) → 0 < count ts → all_cells (front 1 ts) ≡ cells (first ts)
first-cells nil h = absurd (omega arith)
first-cells (cons t ts) h = append-nil (cells t)

pub size-back : (ts : Trees ℕ) → 0 < count ts → size (back 1 ts) < size ts
size-back nil h = absurd (omega arith)
size-back (cons t ts) h = omega (arith, length-cells t, length-append (cells t) (all_cells ts))
  where
    length-cells : (t : Tree ℕ) → 0 < length (cells t)
    length-cells (var n) = omega arith
    length-cells (int z) = omega arith
    length-cells (atom s) = omega arith
    length-cells (comp s ts) = omega arith

-- one tree alone
pub one_tree : (ts : Trees ℕ) → count ts ≡ 1 → ts ≡ cons (first ts) nil
one_tree nil h = absurd (omega arith)
one_tree (cons t nil) h = refl
one_tree (cons t (cons u us)) h = absurd (omega arith)

-- what a walk answers, from its cells
pub peek-is : (cs : List Cell) → IsForest cs → slice_get cs 0 ≡ first_cell (forest cs)
peek-is [] h = refl
peek-is (c ∷ cs) h = sym (first_cell-is c cs h)

pub entered-drop : (cs : List Cell) → forest (drop 1 cs) ≡ entered (forest cs)
entered-drop [] = refl
entered-drop (c ∷ cs) = sym (entered-is c cs)

pub size-is : (cs : List Cell) → IsForest cs → size (forest cs) ≡ length cs
size-is cs h = ap length (size-forest cs h)

pub size-entered : (cs : List Cell) → IsForest cs → 0 < count (forest cs) → size (forest (drop 1 cs)) + 1 ≡ size (forest cs)
size-entered [] h some = absurd (omega arith)
size-entered (c ∷ cs) h some = omega (arith, size-is (c ∷ cs) h, size-is cs (IsForest-rest c cs h))

pub forest-one : (t : Tree ℕ) → forest (cells t) ≡ cons t nil
forest-one t = ap forest (sym (append-nil (cells t))) ∙ forest-cells t []

pub no_trees : (ts : Trees ℕ) → (0 < count ts → ⊥) → ts ≡ nil
no_trees nil h = refl
no_trees (cons t ts) h = absurd (h (omega arith))

pub more-cells : (cs : List Cell) → 0 < length cs → 0 < count (forest cs)
more-cells [] h = absurd (omega arith)
more-cells (c ∷ cs) h = some_tree c cs

pub cells-more : (cs : List Cell) → 0 < count (forest cs) → 0 < length cs
cells-more cs h = omega (arith, count-forest_le cs)

none_left : (n : ℕ) (r : Bool) → r ≡ (n == 0) → IsTrue (not r) → 0 < n
none_left zero true e h = absurd (cc)
none_left zero false e h = absurd (cc)
none_left (suc n) r e h = omega arith

some_left : (n : ℕ) (r : Bool) → r ≡ (n == 0) → 0 < n → IsTrue (not r)
some_left zero r e h = absurd (omega arith)
some_left (suc n) true e h = let same : suc n ≡ 0 = eqb-true (suc n) 0 (sym e) in absurd (omega arith)
some_left (suc n) false e h = refl

pub has_more-is : (cs : List Cell) (r : Bool) → r ≡ (length cs == 0) → IsTrue (not r) ↔ (0 < count (forest cs))
has_more-is cs r e = (λ h. more-cells cs (none_left (length cs) r e h), λ h. some_left (length cs) r e (cells-more cs h))

pub size-less : (cs : List Cell) → IsForest cs → 0 < count (forest cs) → size (forest (drop 1 cs)) < size (forest cs)
size-less cs h some = omega (arith, size-entered cs h some)

pub entered-empty : (cs : List Cell) → (length cs == 0) ≡ true → forest cs ≡ entered (forest cs)
entered-empty [] e = refl
entered-empty (c ∷ cs) e = let same : suc (length cs) ≡ 0 = eqb-true (suc (length cs)) 0 e in absurd (omega arith)

pub empty-none : (cs : List Cell) → (length cs == 0) ≡ true → 0 < count (forest cs) → ⊥
empty-none [] e h = omega arith
empty-none (c ∷ cs) e h = let same : suc (length cs) ≡ 0 = eqb-true (suc (length cs)) 0 e in omega arith

pub size-less-at : (cs ds : List Cell) (v : Trees ℕ) → ds ≡ drop 1 cs → forest cs ≡ v → IsForest cs → 0 < count v → size (forest ds) < size v
size-less-at cs ds v e is h some =
    let first : size (forest (drop 1 cs)) < size (forest cs) = size-less cs h (subst (λ ts. 0 < count ts) (sym is) some) in
    let left : size (forest ds) ≡ size (forest (drop 1 cs)) = ap (λ l. size (forest l)) e in
    let right : size (forest cs) ≡ size v = ap size is in
    omega arith
