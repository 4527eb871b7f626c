-- The order of trees is that of their lists of cells.
use Rattle.std.proofs.Common.{◌≡◌, ℕ, zero, suc, ◌+◌, ◌<◌, min, length, drop, get_or, List, [], ◌∷◌, ◌++◌, All, true, false, refl, sym, ap, ◌∙◌, arith, subst, append_assoc, length-drop}
use Rattle.std.proofs.Math.Seq.{drop-cons}
use Rattle.std.proofs.lemmas.Bool.{true≢false}
use Rattle.std.proofs.lemmas.Cmp.{ranked}
use Rattle.std.specs.Ordering.{nat_cmp, ordering_then, is_ne, MatchOrdering}
use Rattle.std.specs.Cmp.Lexicographic.{slice_cmp}
use Rattle.std.specs.declared.cmp.Ordering.{Ordering}
use Rattle.std.specs.declared.cmp.Ordering.TheVariants.{Less, Equal, Greater}
use Rattle.pl_terms.specs.Trees.{Tree, var, int, atom, comp, Trees, nil, cons, count, renamed, all_renamed}
use Rattle.pl_terms.specs.Cells.{cells, all_cells}
use Rattle.pl_terms.specs.Forest.{append-nil}
use Rattle.pl_terms.specs.Order.{tree_cmp, trees_cmp, text_cmp, standard_cmp, text_of, texts_of}
use Rattle.pl_terms.specs.CellOrder.{cell_cmp, name_cmp}
use Rattle.pl_terms.specs.NameBounds.{NamesBelow, AllNamesBelow, NameBelow}
use Rattle.pl_terms.specs.declared.cell.Cell.{Cell}

then_assoc : (o p q : Ordering) → ordering_then o (ordering_then p q) ≡ ordering_then (ordering_then o p) q
then_assoc Less p q = refl
then_assoc Equal p q = refl
then_assoc Greater p q = refl

then_Equal : (o : Ordering) → ordering_then o Equal ≡ o
then_Equal Less = refl
then_Equal Equal = refl
then_Equal Greater = refl

comp_step : (o p q x y : Ordering) → (o ≡ Equal → y ≡ ordering_then q x) → ordering_then (ordering_then o p) y ≡ ordering_then (ordering_then o (ordering_then p q)) x
comp_step Less p q x y h = refl
comp_step Equal Less q x y h = refl
comp_step Equal Equal q x y h = h refl
comp_step Equal Greater q x y h = refl
comp_step Greater p q x y h = refl

same_count : (m n : ℕ) → nat_cmp m n ≡ Equal → m ≡ n
same_count m n e = ranked m n Equal (sym e)

count-all_renamed : {N M : Type 0} (f : N → M) (ts : Trees N) → count (all_renamed f ts) ≡ count ts
count-all_renamed f nil = refl
count-all_renamed f (cons t ts) = ap suc (count-all_renamed f ts)

module _ {M : Type 0} (R : M → M → Ordering) (f : ℕ → M) where
  abbrev by_name : ℕ → ℕ → Ordering
  by_name m n = R (f m) (f n)

  mutual
    cells_cmp : (s t : Tree ℕ) (u v : List Cell) → slice_cmp (cell_cmp by_name) (cells s ++ u) (cells t ++ v) ≡ ordering_then (tree_cmp R (renamed f s) (renamed f t)) (slice_cmp (cell_cmp by_name) u v)
    cells_cmp (var m) (var n) u v = refl
    cells_cmp (var m) (int z) u v = refl
    cells_cmp (var m) (atom s) u v = refl
    cells_cmp (var m) (comp s ss) u v = refl
    cells_cmp (int y) (var n) u v = refl
    cells_cmp (int y) (int z) u v = refl
    cells_cmp (int y) (atom s) u v = refl
    cells_cmp (int y) (comp s ss) u v = refl
    cells_cmp (atom r) (var n) u v = refl
    cells_cmp (atom r) (int z) u v = refl
    cells_cmp (atom r) (atom s) u v = refl
    cells_cmp (atom r) (comp s ss) u v = refl
    cells_cmp (comp r rs) (var n) u v = refl
    cells_cmp (comp r rs) (int z) u v = refl
    cells_cmp (comp r rs) (atom s) u v = refl
    cells_cmp (comp r rs) (comp s ss) u v =
        comp_step (nat_cmp (count rs) (count ss)) (by_name r s) (trees_cmp R (all_renamed f rs) (all_renamed f ss)) (slice_cmp (cell_cmp by_name) u v) (slice_cmp (cell_cmp by_name) (all_cells rs ++ u) (all_cells ss ++ v)) (λ e. all_cells_cmp rs ss u v (same_count (count rs) (count ss) e))
        ∙ ap (λ n. ordering_then (ordering_then (nat_cmp n (count ss)) (ordering_then (by_name r s) (trees_cmp R (all_renamed f rs) (all_renamed f ss)))) (slice_cmp (cell_cmp by_name) u v)) (sym (count-all_renamed f rs))
        ∙ ap (λ n. ordering_then (ordering_then (nat_cmp (count (all_renamed f rs)) n) (ordering_then (by_name r s) (trees_cmp R (all_renamed f rs) (all_renamed f ss)))) (slice_cmp (cell_cmp by_name) u v)) (sym (count-all_renamed f ss))

    all_cells_cmp : (ss ts : Trees ℕ) (u v : List Cell) → count ss ≡ count ts → slice_cmp (cell_cmp by_name) (all_cells ss ++ u) (all_cells ts ++ v) ≡ ordering_then (trees_cmp R (all_renamed f ss) (all_renamed f ts)) (slice_cmp (cell_cmp by_name) u v)
    all_cells_cmp nil nil u v e = refl
    all_cells_cmp nil (cons t ts) u v e = absurd (omega arith)
    all_cells_cmp (cons s ss) nil u v e = absurd (omega arith)
    all_cells_cmp (cons s ss) (cons t ts) u v e =
        ap (λ l. slice_cmp (cell_cmp by_name) l ((cells t ++ all_cells ts) ++ v)) (append_assoc (cells s) (all_cells ss) u)
        ∙ ap (slice_cmp (cell_cmp by_name) (cells s ++ (all_cells ss ++ u))) (append_assoc (cells t) (all_cells ts) v)
        ∙ cells_cmp s t (all_cells ss ++ u) (all_cells ts ++ v)
        ∙ ap (ordering_then (tree_cmp R (renamed f s) (renamed f t))) (all_cells_cmp ss ts u v (omega arith))
        ∙ then_assoc (tree_cmp R (renamed f s) (renamed f t)) (trees_cmp R (all_renamed f ss) (all_renamed f ts)) (slice_cmp (cell_cmp by_name) u v)

  cells_cmp-whole : (s t : Tree ℕ) → slice_cmp (cell_cmp by_name) (cells s) (cells t) ≡ tree_cmp R (renamed f s) (renamed f t)
  cells_cmp-whole s t =
      ap (λ l. slice_cmp (cell_cmp by_name) l (cells t)) (sym (append-nil (cells s)))
      ∙ ap (slice_cmp (cell_cmp by_name) (cells s ++ [])) (sym (append-nil (cells t)))
      ∙ cells_cmp s t [] []
      ∙ then_Equal (tree_cmp R (renamed f s) (renamed f t))

pub cells_cmp-standard : (names : List (List ℕ)) (xs ys : List Cell) (s t : Tree ℕ) → xs ≡ cells s → ys ≡ cells t
    → slice_cmp (cell_cmp (name_cmp names)) xs ys ≡ standard_cmp (texts_of names s) (texts_of names t)
cells_cmp-standard names xs ys s t left right =
    ap (λ l. slice_cmp (cell_cmp (name_cmp names)) l ys) left
    ∙ ap (slice_cmp (cell_cmp (name_cmp names)) (cells s)) right
    ∙ cells_cmp-whole text_cmp (text_of names) s t

-- the names of a tree's cells are below what those of the tree are below
module _ (limit : ℕ) where
  abbrev EachBelow : List Cell → Type 0
  EachBelow [] = Unit {0}
  EachBelow (c ∷ cs) = NameBelow limit c × EachBelow cs

  EachBelow-append : (cs ds : List Cell) → EachBelow cs → EachBelow ds → EachBelow (cs ++ ds)
  EachBelow-append [] ds h g = g
  EachBelow-append (c ∷ cs) ds h g = (h.0, EachBelow-append cs ds h.1 g)

  EachBelow-at : (cs : List Cell) (i : ℕ) (d : Cell) → EachBelow cs → i < length cs → NameBelow limit (get_or cs i d)
  EachBelow-at [] i d h within = absurd (omega arith)
  EachBelow-at (c ∷ cs) zero d h within = h.0
  EachBelow-at (c ∷ cs) (suc i) d h within = EachBelow-at cs i d h.1 (omega arith)

  mutual
    EachBelow-cells : (t : Tree ℕ) → NamesBelow limit t → EachBelow (cells t)
    EachBelow-cells (var n) h = (tt, tt)
    EachBelow-cells (int z) h = (tt, tt)
    EachBelow-cells (atom s) h = (h, tt)
    EachBelow-cells (comp s ts) h = (h.0, EachBelow-all_cells ts h.1)

    EachBelow-all_cells : (ts : Trees ℕ) → AllNamesBelow limit ts → EachBelow (all_cells ts)
    EachBelow-all_cells nil h = tt
    EachBelow-all_cells (cons t ts) h = EachBelow-append (cells t) (all_cells ts) (EachBelow-cells t h.0) (EachBelow-all_cells ts h.1)

  pub NameBelow-at : (cs : List Cell) (t : Tree ℕ) (i : ℕ) (d : Cell) → cs ≡ cells t → NamesBelow limit t → i < length cs → NameBelow limit (get_or cs i d)
  NameBelow-at cs t i d e h within = EachBelow-at cs i d (subst EachBelow (sym e) (EachBelow-cells t h)) within

  -- and the other way round
  EachBelow-parts : (cs ds : List Cell) → EachBelow (cs ++ ds) → EachBelow cs × EachBelow ds
  EachBelow-parts [] ds h = (tt, h)
  EachBelow-parts (c ∷ cs) ds h = let parts = EachBelow-parts cs ds h.1 in ((h.0, parts.0), parts.1)

  mutual
    NamesBelow-EachBelow : (t : Tree ℕ) → EachBelow (cells t) → NamesBelow limit t
    NamesBelow-EachBelow (var n) h = tt
    NamesBelow-EachBelow (int z) h = tt
    NamesBelow-EachBelow (atom s) h = h.0
    NamesBelow-EachBelow (comp s ts) h = (h.0, AllNamesBelow-EachBelow ts h.1)

    AllNamesBelow-EachBelow : (ts : Trees ℕ) → EachBelow (all_cells ts) → AllNamesBelow limit ts
    AllNamesBelow-EachBelow nil h = tt
    AllNamesBelow-EachBelow (cons t ts) h =
        let parts = EachBelow-parts (cells t) (all_cells ts) h in (NamesBelow-EachBelow t parts.0, AllNamesBelow-EachBelow ts parts.1)

  EachBelow-All : (cs : List Cell) → All (NameBelow limit) cs → EachBelow cs
  EachBelow-All [] h = tt
  EachBelow-All (c ∷ cs) h = (h 0 c (omega arith), EachBelow-All cs (λ k d within. h (suc k) d (omega arith)))

  pub NamesBelow-All : (cs : List Cell) (t : Tree ℕ) → cs ≡ cells t → All (NameBelow limit) cs → NamesBelow limit t
  NamesBelow-All cs t e h = NamesBelow-EachBelow t (subst EachBelow e (EachBelow-All cs h))

-- the turns of a loop over two lists
decided : (o k : Ordering) → is_ne o ≡ true → o ≡ ordering_then o k
decided Less k e = refl
decided Equal k e = absurd (true≢false (sym e))
decided Greater k e = refl

undecided : (o k : Ordering) → is_ne o ≡ false → k ≡ ordering_then o k
undecided Less k e = absurd (true≢false e)
undecided Equal k e = refl
undecided Greater k e = absurd (true≢false e)

shifted : (a b i c d : ℕ) (r : Ordering) → i ≡ min a b → c + i ≡ a → d + i ≡ b → MatchOrdering r (a < b) (a ≡ b) (b < a) → MatchOrdering r (c < d) (c ≡ d) (d < c)
shifted a b i c d Less m p q h = let l : a < b = h in omega arith
shifted a b i c d Equal m p q h = let l : a ≡ b = h in omega arith
shifted a b i c d Greater m p q h = let l : b < a = h in omega arith

module _ {X : Type 0} (R : X → X → Ordering) where
  by_lengths : (xs ys : List X) (r : Ordering) → min (length xs) (length ys) ≡ 0 → MatchOrdering r (length xs < length ys) (length xs ≡ length ys) (length ys < length xs) → r ≡ slice_cmp R xs ys
  by_lengths [] [] Less m h = let l : 0 < 0 = h in absurd (omega arith)
  by_lengths [] [] Equal m h = refl
  by_lengths [] [] Greater m h = let l : 0 < 0 = h in absurd (omega arith)
  by_lengths [] (y ∷ ys) Less m h = refl
  by_lengths [] (y ∷ ys) Equal m h = let e : 0 ≡ suc (length ys) = h in absurd (omega arith)
  by_lengths [] (y ∷ ys) Greater m h = let l : suc (length ys) < 0 = h in absurd (omega arith)
  by_lengths (x ∷ xs) [] Less m h = let l : suc (length xs) < 0 = h in absurd (omega arith)
  by_lengths (x ∷ xs) [] Equal m h = let e : suc (length xs) ≡ 0 = h in absurd (omega arith)
  by_lengths (x ∷ xs) [] Greater m h = refl
  by_lengths (x ∷ xs) (y ∷ ys) r m h = let e : min (suc (length xs)) (suc (length ys)) ≡ 0 = m in absurd (omega arith)

  module _ (xs ys : List X) (i : ℕ) (whole : Ordering) (rest : slice_cmp R (drop i xs) (drop i ys) ≡ whole) where
    module _ (o : Ordering) (d : X) (left : i < length xs) (right : i < length ys) (found : o ≡ R (get_or xs i d) (get_or ys i d)) where
      turn : ordering_then o (slice_cmp R (drop (i + 1) xs) (drop (i + 1) ys)) ≡ whole
      turn =
          let next : i + 1 ≡ suc i = omega arith in
          ap (λ n. ordering_then o (slice_cmp R (drop n xs) (drop n ys))) next
          ∙ ap (λ p. ordering_then p (slice_cmp R (drop (suc i) xs) (drop (suc i) ys))) found
          ∙ ap (λ l. slice_cmp R (get_or xs i d ∷ drop (suc i) xs) l) (sym (drop-cons ys i d right))
          ∙ ap (λ l. slice_cmp R l (drop i ys)) (sym (drop-cons xs i d left))
          ∙ rest

      pub turn-decided : is_ne o ≡ true → o ≡ whole
      turn-decided e = decided o _ e ∙ turn

      pub turn-undecided : is_ne o ≡ false → slice_cmp R (drop (i + 1) xs) (drop (i + 1) ys) ≡ whole
      turn-undecided e = undecided o _ e ∙ turn

    pub turn-ended : (r : Ordering) → i ≡ min (length xs) (length ys) → r ≡ nat_cmp (length xs) (length ys) → r ≡ whole
    turn-ended r m h =
        let p = length-drop i xs in
        let q = length-drop i ys in
        by_lengths (drop i xs) (drop i ys) r (omega arith) (shifted (length xs) (length ys) i (length (drop i xs)) (length (drop i ys)) r m (omega arith) (omega arith) (ranked _ _ r h))
        ∙ rest
