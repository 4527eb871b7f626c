-- Terms whose variables are numbered in order of first occurrence.
use Rattle.std.proofs.Common.{◌≡◌, ◌∙◌, ℕ, suc, ◌+◌, ◌<◌, ◌≤◌, max, List, [], ◌∷◌, ◌++◌, length, map, take, drop, get_or, nat_eq, cond, not, ◌||◌, if◌then◌else◌, Bool, true, false, refl, ap, sym, subst, arith}
use Rattle.std.specs.List.{list_any, position_or_len}
use Rattle.std.proofs.lemmas.List.{append-nil, append_assoc, take-append-drop, drop_more, take_more, length_push}
use Rattle.indexmap.specs.IndexSet.{insert_key, insert_all}
use Rattle.pl_terms.specs.Trees.{Tree}
use Rattle.pl_terms.specs.Cells.{cells}
use Rattle.pl_terms.specs.CellNumbers.{cell_by, numbers}
use Rattle.pl_terms.specs.Occurrence.{variables, canon, place_of}
use Rattle.pl_terms.specs.declared.cell.Cell.{Cell}
use Rattle.pl_terms.specs.declared.cell.Cell.TheVariants.{Var, Int, Name, Comp}
use Rattle.pl_unify.specs.Load.{NewInOrder, next_after}
use Rattle.pl_builtin_terms.proofs.Finding.{insert_all-variables}
use Rattle.pl_builtin_terms.proofs.Renumbering.{numbered_by-cells, cells-numbered_by, numbers-append, numbers-cells, cell_by-more}

eq-itself : (n : ℕ) → nat_eq n n ≡ true
eq-itself n = grind arith

pub place-position : (n : ℕ) (ks : List ℕ) → place_of n ks ≡ position_or_len (nat_eq n) ks
place-position n [] = refl
place-position n (m ∷ ks) = by (nat_eq n m) (place-position n ks)
  where
    by : (b : Bool) → place_of n ks ≡ position_or_len (nat_eq n) ks → (if b then 0 else suc (place_of n ks)) ≡ cond (not b) (1 + position_or_len (nat_eq n) ks) 0
    by true h = refl
    by false h = omega (arith, h)

place-last : (n : ℕ) (ks : List ℕ) → place_of n (ks ++ n ∷ []) ≡ place_of n ks
place-last n [] = ap (λ b. if b then 0 else 1) (eq-itself n)
place-last n (m ∷ ks) = ap (λ k. if nat_eq n m then 0 else suc k) (place-last n ks)

pub place-insert : (n : ℕ) (ks : List ℕ) → place_of n (insert_key nat_eq ks n) ≡ place_of n ks
place-insert n ks = by (list_any (nat_eq n) ks)
  where
    by : (b : Bool) → place_of n (if b then ks else ks ++ n ∷ []) ≡ place_of n ks
    by true = refl
    by false = place-last n ks

place-kept : (n : ℕ) (ks more : List ℕ) → list_any (nat_eq n) ks ≡ true → place_of n (ks ++ more) ≡ place_of n ks
place-kept n [] more h = cc
place-kept n (m ∷ ks) more h = by (nat_eq n m) h (place-kept n ks more)
  where
    by : (b : Bool) → (b || list_any (nat_eq n) ks) ≡ true → (list_any (nat_eq n) ks ≡ true → place_of n (ks ++ more) ≡ place_of n ks) → (if b then 0 else suc (place_of n (ks ++ more))) ≡ (if b then 0 else suc (place_of n ks))
    by true h f = refl
    by false h f = ap suc (f h)

in-last : (n : ℕ) (ks : List ℕ) → list_any (nat_eq n) (ks ++ n ∷ []) ≡ true
in-last n [] = ap (λ b. b || false) (eq-itself n)
in-last n (m ∷ ks) = ap (λ b. nat_eq n m || b) (in-last n ks) ∙ or-true (nat_eq n m)
  where
    or-true : (b : Bool) → (b || true) ≡ true
    or-true true = refl
    or-true false = refl

in-insert : (n : ℕ) (ks : List ℕ) → list_any (nat_eq n) (insert_key nat_eq ks n) ≡ true
in-insert n ks = by (list_any (nat_eq n) ks) refl
  where
    by : (b : Bool) → list_any (nat_eq n) ks ≡ b → list_any (nat_eq n) (if b then ks else ks ++ n ∷ []) ≡ true
    by true h = h
    by false h = in-last n ks

insert_key-more : (ks : List ℕ) (n : ℕ) → (more : List ℕ) × (insert_key nat_eq ks n ≡ ks ++ more)
insert_key-more ks n = by (list_any (nat_eq n) ks)
  where
    by : (b : Bool) → (more : List ℕ) × ((if b then ks else ks ++ n ∷ []) ≡ ks ++ more)
    by true = ([], sym (append-nil ks))
    by false = (n ∷ [], refl)

insert_all-more : (ks ns : List ℕ) → (more : List ℕ) × (insert_all nat_eq ks ns ≡ ks ++ more)
insert_all-more ks [] = ([], sym (append-nil ks))
insert_all-more ks (n ∷ ns) =
    let one = insert_key-more ks n in
    let all = insert_all-more (insert_key nat_eq ks n) ns in
    (one.0 ++ all.0, all.1 ∙ (ap (λ x. x ++ all.0) one.1 ∙ append_assoc ks one.0 all.0))

insert_all-append : (ks xs ys : List ℕ) → insert_all nat_eq ks (xs ++ ys) ≡ insert_all nat_eq (insert_all nat_eq ks xs) ys
insert_all-append ks [] ys = refl
insert_all-append ks (x ∷ xs) ys = insert_all-append (insert_key nat_eq ks x) xs ys

place-final : (ks : List ℕ) (n : ℕ) (ns : List ℕ) → place_of n (insert_all nat_eq (insert_key nat_eq ks n) ns) ≡ place_of n (insert_key nat_eq ks n)
place-final ks n ns =
    let all = insert_all-more (insert_key nat_eq ks n) ns in
    ap (place_of n) all.1 ∙ place-kept n (insert_key nat_eq ks n) all.0 (in-insert n ks)

-- a cell keeps its number
cell-kept : (c : Cell) (ks ns : List ℕ)
    → cell_by (λ n. place_of n (insert_all nat_eq ks (numbers (c ∷ [])))) c ≡ cell_by (λ n. place_of n (insert_all nat_eq (insert_all nat_eq ks (numbers (c ∷ []))) ns)) c
cell-kept (Var n) ks ns = ap Var (sym (place-final ks n ns))
cell-kept (Int z) ks ns = refl
cell-kept (Name a) ks ns = refl
cell-kept (Comp f k) ks ns = refl

abbrev pub final : List Cell → ℕ → ℕ
final cs n = place_of n (insert_all nat_eq [] (numbers cs))

module _ (cs : List Cell) (i : ℕ) (d : Cell) (within : i < length cs) where
  split : numbers cs ≡ numbers (take i cs) ++ (numbers (get_or cs i d ∷ []) ++ numbers (drop (i + 1) cs))
  split =
      ap numbers (sym (take-append-drop i cs) ∙ ap (λ x. take i cs ++ x) (drop_more cs i d within))
      ∙ (numbers-append (take i cs) (get_or cs i d ∷ drop (i + 1) cs) ∙ ap (λ x. numbers (take i cs) ++ x) (numbers-append (get_or cs i d ∷ []) (drop (i + 1) cs)))

  pub keys-more : (keys keys2 : List ℕ) → keys ≡ insert_all nat_eq [] (numbers (take i cs)) → keys2 ≡ insert_all nat_eq keys (numbers (get_or cs i d ∷ [])) → keys2 ≡ insert_all nat_eq [] (numbers (take (i + 1) cs))
  keys-more keys keys2 was more =
      more
      ∙ (ap (λ k. insert_all nat_eq k (numbers (get_or cs i d ∷ []))) was
      ∙ (sym (insert_all-append [] (numbers (take i cs)) (numbers (get_or cs i d ∷ [])))
      ∙ ap (insert_all nat_eq []) (sym (numbers-append (take i cs) (get_or cs i d ∷ [])) ∙ ap numbers (sym (take_more cs i d within)))))

  pub copy-more : (keys keys2 : List ℕ) (copy copy2 : List Cell) (c2 : Cell) → keys ≡ insert_all nat_eq [] (numbers (take i cs)) → keys2 ≡ insert_all nat_eq keys (numbers (get_or cs i d ∷ []))
      → copy ≡ map (cell_by (final cs)) (take i cs) → c2 ≡ cell_by (λ n. place_of n keys2) (get_or cs i d) → copy2 ≡ copy ++ c2 ∷ [] → copy2 ≡ map (cell_by (final cs)) (take (i + 1) cs)
  copy-more keys keys2 copy copy2 c2 was more done one pushed =
      let all : insert_all nat_eq [] (numbers cs) ≡ insert_all nat_eq (insert_all nat_eq keys (numbers (get_or cs i d ∷ []))) (numbers (drop (i + 1) cs)) =
      ap (insert_all nat_eq []) split
      ∙ (insert_all-append [] (numbers (take i cs)) (numbers (get_or cs i d ∷ []) ++ numbers (drop (i + 1) cs))
      ∙ (ap (λ k. insert_all nat_eq k (numbers (get_or cs i d ∷ []) ++ numbers (drop (i + 1) cs))) (sym was)
      ∙ insert_all-append keys (numbers (get_or cs i d ∷ [])) (numbers (drop (i + 1) cs)))) in
      let same : c2 ≡ cell_by (final cs) (get_or cs i d) =
      one ∙ (ap (λ k. cell_by (λ n. place_of n k) (get_or cs i d)) more ∙ (cell-kept (get_or cs i d) keys (numbers (drop (i + 1) cs)) ∙ ap (λ k. cell_by (λ n. place_of n k) (get_or cs i d)) (sym all))) in
      cell_by-more (final cs) cs i copy copy2 c2 d within done same pushed

-- the copy of all cells is the canonical term
pub copy-canon : (t u : Tree ℕ) (cs : List Cell) → cs ≡ cells t → cells u ≡ map (cell_by (final cs)) cs → u ≡ canon t
copy-canon t u cs e h =
    let keys : insert_all nat_eq [] (numbers cs) ≡ variables t = ap (λ x. insert_all nat_eq [] (numbers x)) e ∙ (ap (insert_all nat_eq []) (numbers-cells t) ∙ insert_all-variables t) in
    numbered_by-cells (λ n. place_of n (variables t)) t u
    (h ∙ (ap (map (cell_by (final cs))) e ∙ ap (λ k. map (cell_by (λ n. place_of n k)) (cells t)) keys))

-- ---- the canonical term may be loaded

place-in : (n : ℕ) (ks : List ℕ) → list_any (nat_eq n) ks ≡ true → place_of n ks < length ks
place-in n [] h = cc
place-in n (m ∷ ks) h = by (nat_eq n m) h (place-in n ks)
  where
    by : (b : Bool) → (b || list_any (nat_eq n) ks) ≡ true → (list_any (nat_eq n) ks ≡ true → place_of n ks < length ks) → (if b then 0 else suc (place_of n ks)) < suc (length ks)
    by true h f = omega arith
    by false h f = omega (arith, f h)

place-out : (n : ℕ) (ks : List ℕ) → list_any (nat_eq n) ks ≡ false → place_of n ks ≡ length ks
place-out n [] h = refl
place-out n (m ∷ ks) h = by (nat_eq n m) h (place-out n ks)
  where
    by : (b : Bool) → (b || list_any (nat_eq n) ks) ≡ false → (list_any (nat_eq n) ks ≡ false → place_of n ks ≡ length ks) → (if b then 0 else suc (place_of n ks)) ≡ suc (length ks)
    by true h f = cc
    by false h f = ap suc (f h)

record Next (n : ℕ) (ks new : List ℕ) : Type 0 where
  low : place_of n ks ≤ length ks
  up : max (length ks) (place_of n ks + 1) ≡ length new

place-next : (n : ℕ) (ks : List ℕ) → Next n ks (insert_key nat_eq ks n)
place-next n ks = by (list_any (nat_eq n) ks) refl
  where
    by : (b : Bool) → list_any (nat_eq n) ks ≡ b → Next n ks (if b then ks else ks ++ n ∷ [])
    by true h = let i = place-in n ks h in record { low = omega (arith, i); up = omega (arith, i) }
    by false h = let o = place-out n ks h in record { low = omega (arith, o); up = omega (arith, o, length_push ks n) }

abbrev with_places : List ℕ → List Cell → List Cell
with_places ks cs = map (cell_by (λ n. place_of n ks)) cs

order-from : (base next : ℕ) (ks : List ℕ) (cs : List Cell) → next ≡ length ks + base → NewInOrder base next (with_places (insert_all nat_eq ks (numbers cs)) cs)
order-from base next ks [] e = tt
order-from base next ks (Var n ∷ cs) e =
    let p : place_of n (insert_all nat_eq (insert_key nat_eq ks n) (numbers cs)) ≡ place_of n ks = place-final ks n (numbers cs) ∙ place-insert n ks in
    let x = place-next n ks in
    (omega (arith, p, x.low), order-from base (max next (place_of n (insert_all nat_eq (insert_key nat_eq ks n) (numbers cs)) + base + 1)) (insert_key nat_eq ks n) cs (omega (arith, p, x.up)))
order-from base next ks (Int z ∷ cs) e = order-from base next ks cs e
order-from base next ks (Name a ∷ cs) e = order-from base next ks cs e
order-from base next ks (Comp f k ∷ cs) e = order-from base next ks cs e

next_after-max : (base a next : ℕ) (cs : List Cell) → max a (next_after base next cs) ≡ next_after base (max next a) cs
next_after-max base a next [] = omega arith
next_after-max base a next (Var n ∷ cs) = omega (arith, next_after-max base a next cs)
next_after-max base a next (Int z ∷ cs) = next_after-max base a next cs
next_after-max base a next (Name s ∷ cs) = next_after-max base a next cs
next_after-max base a next (Comp f k ∷ cs) = next_after-max base a next cs

next-from : (base next : ℕ) (ks : List ℕ) (cs : List Cell) → next ≡ length ks + base → next_after base next (with_places (insert_all nat_eq ks (numbers cs)) cs) ≡ length (insert_all nat_eq ks (numbers cs)) + base
next-from base next ks [] e = e
next-from base next ks (Var n ∷ cs) e =
    let q : ℕ = place_of n (insert_all nat_eq (insert_key nat_eq ks n) (numbers cs)) in
    let p : q ≡ place_of n ks = place-final ks n (numbers cs) ∙ place-insert n ks in
    let x = place-next n ks in
    next_after-max base (q + base + 1) next (with_places (insert_all nat_eq (insert_key nat_eq ks n) (numbers cs)) cs)
    ∙ next-from base (max next (q + base + 1)) (insert_key nat_eq ks n) cs (omega (arith, p, x.up))
next-from base next ks (Int z ∷ cs) e = next-from base next ks cs e
next-from base next ks (Name a ∷ cs) e = next-from base next ks cs e
next-from base next ks (Comp f k ∷ cs) e = next-from base next ks cs e

cells-canon : (t : Tree ℕ) → cells (canon t) ≡ with_places (insert_all nat_eq [] (numbers (cells t))) (cells t)
cells-canon t =
    cells-numbered_by (λ n. place_of n (variables t)) t
    ∙ ap (λ k. with_places k (cells t)) (sym (ap (insert_all nat_eq []) (numbers-cells t) ∙ insert_all-variables t))

pub order-canon : (base : ℕ) (t : Tree ℕ) → NewInOrder base base (cells (canon t))
order-canon base t = subst (NewInOrder base base) (sym (cells-canon t)) (order-from base base [] (cells t) (omega arith))

pub next-canon : (base : ℕ) (t : Tree ℕ) → next_after base base (cells (canon t)) ≡ base + length (variables t)
next-canon base t =
    let n = next-from base base [] (cells t) (omega arith) in
    let k : length (insert_all nat_eq [] (numbers (cells t))) ≡ length (variables t) = ap length (ap (insert_all nat_eq []) (numbers-cells t) ∙ insert_all-variables t) in
    ap (next_after base base) (cells-canon t) ∙ (omega (arith, n, k))
