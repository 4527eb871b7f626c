-- From operator-behind to prefix order.
use Rattle.std.proofs.Common.{◌≡◌, ℕ, suc, ◌+◌, ◌-◌, ◌<◌, ◌≤◌, List, [], ◌∷◌, ◌++◌, length, take, get_or, reverse, refl, sym, ap, ◌∙◌, arith, append_assoc, append-nil, length-append, nat_lt}
use Rattle.std.proofs.lemmas.Bool.{lt-ltb, le-ltb, cond-true, cond-false}
use Rattle.std.proofs.Math.Seq.{get_or-append_seam}
use Rattle.std.proofs.lemmas.List.{reverse-append}
use Rattle.pl_terms.specs.Trees.{Tree, var, int, atom, comp, Trees, nil, cons, count}
use Rattle.pl_reader.specs.Stands.{id, behind, all_behind}
use Rattle.pl_reader.specs.Turning.{State, settle, take_cell, turned, backed, in_front, all_in_front}
use Rattle.pl_atoms.specs.declared.names.NameId.{NameId}
use Rattle.pl_terms.specs.declared.cell.Cell.{Cell}
use Rattle.pl_terms.specs.declared.cell.Cell.TheVariants.{Comp}
use Rattle.pl_reader.specs.declared.prefix.Pending.{Pending}

-- the cells so far, in reverse
abbrev pub back : List Cell → List Cell
back [] = []
back (c ∷ cs) = back cs ++ c ∷ []

pub back-append : (xs ys : List Cell) → back (xs ++ ys) ≡ back ys ++ back xs
back-append [] ys = sym (append-nil (back ys))
back-append (x ∷ xs) ys = ap (λ l. l ++ x ∷ []) (back-append xs ys) ∙ append_assoc (back ys) (back xs) (x ∷ [])

turned-append : (xs ys : List Cell) (s : State) → turned (xs ++ ys) s ≡ turned xs (turned ys s)
turned-append [] ys s = refl
turned-append (x ∷ xs) ys s = ap (take_cell x) (turned-append xs ys s)

abbrev waits : Cell → ℕ → Pending
waits c n = record { cell = c; missing = n }

settle-more : (c : Cell) (m : ℕ) (ps : List Pending) (out : List Cell) → settle (waits c (suc (suc m)) ∷ ps) out ≡ (waits c (suc m) ∷ ps, out)
settle-more c m ps out =
    let h : 1 < suc (suc m) = omega arith in
    let e : suc (suc m) - 1 ≡ suc m = omega arith in
    cond-true (nat_lt 1 (suc (suc m))) _ _ (lt-ltb 1 (suc (suc m)) h) ∙ ap (λ n. (waits c n ∷ ps, out)) e

settle-last : (c : Cell) (ps : List Pending) (out : List Cell) → settle (waits c 1 ∷ ps) out ≡ settle ps (out ++ c ∷ [])
settle-last c ps out = refl

opens-more : (s : NameId) (m : ℕ) (ps : List Pending) (out : List Cell) → take_cell (Comp s (suc m)) (ps, out) ≡ (waits (Comp s (suc m)) (suc m) ∷ ps, out)
opens-more s m ps out =
    let h : 0 < suc m = omega arith in
    cond-true (nat_lt 0 (suc m)) _ _ (lt-ltb 0 (suc m) h)

module _ (num : List ℕ → ℕ) where
  mutual
    pub turned-tree : (t : Tree (List ℕ)) (ps : List Pending) (out : List Cell) → turned (behind num t) (ps, out) ≡ settle ps (out ++ back (in_front num t))
    turned-tree (var n) ps out = refl
    turned-tree (int z) ps out = refl
    turned-tree (atom s) ps out = refl
    turned-tree (comp s nil) ps out = refl
    turned-tree (comp s (cons u us)) ps out =
        let c = Comp (id num s) (suc (count us)) in
        turned-append (behind num u ++ all_behind num us) (c ∷ []) (ps, out)
        ∙ ap (turned (behind num u ++ all_behind num us)) (opens-more (id num s) (count us) ps out)
        ∙ turned-append (behind num u) (all_behind num us) (waits c (suc (count us)) ∷ ps, out)
        ∙ ap (turned (behind num u)) (turned-trees us c 0 (suc (count us)) ps out (omega arith))
        ∙ turned-tree u (waits c 1 ∷ ps) (out ++ back (all_in_front num us))
        ∙ ap (settle ps) (regroup out (back (all_in_front num us)) (back (in_front num u)) (c ∷ []))
        ∙ ap (λ l. settle ps (out ++ (l ++ c ∷ []))) (sym (back-append (in_front num u) (all_in_front num us)))
      where
        regroup : (a b d e : List Cell) → ((a ++ b) ++ d) ++ e ≡ a ++ ((b ++ d) ++ e)
        regroup a b d e = simp append_assoc

    -- with more to come after these
    pub turned-trees : (ts : Trees (List ℕ)) (c : Cell) (m n : ℕ) (ps : List Pending) (out : List Cell) → n ≡ suc m + count ts → turned (all_behind num ts) (waits c n ∷ ps, out) ≡ (waits c (suc m) ∷ ps, out ++ back (all_in_front num ts))
    turned-trees nil c m n ps out e =
        let f : n ≡ suc m = omega arith in
        ap (λ k. (waits c k ∷ ps, out)) f ∙ ap (λ l. (waits c (suc m) ∷ ps, l)) (sym (append-nil out))
    turned-trees (cons t ts) c m n ps out e =
        turned-append (behind num t) (all_behind num ts) (waits c n ∷ ps, out)
        ∙ ap (turned (behind num t)) (turned-trees ts c (suc m) n ps out (omega arith))
        ∙ turned-tree t (waits c (suc (suc m)) ∷ ps) (out ++ back (all_in_front num ts))
        ∙ settle-more c m ps ((out ++ back (all_in_front num ts)) ++ back (in_front num t))
        ∙ ap (λ l. (waits c (suc m) ∷ ps, l)) (append_assoc out (back (all_in_front num ts)) (back (in_front num t)) ∙ ap (λ l. out ++ l) (sym (back-append (in_front num t) (all_in_front num ts))))

  pub turned-whole : (t : Tree (List ℕ)) → turned (behind num t) ([], []) ≡ ([], back (in_front num t))
  turned-whole t = turned-tree t [] []

take-but_last : (xs : List Pending) (y : Pending) → take (length (xs ++ y ∷ []) - 1) (xs ++ y ∷ []) ≡ xs
take-but_last xs y =
    let n : length (xs ++ y ∷ []) - 1 ≡ length xs = omega (arith, length-append xs (y ∷ [])) in
    ap (λ k. take k (xs ++ y ∷ [])) n ∙ front xs
  where
    front : (zs : List Pending) → take (length zs) (zs ++ y ∷ []) ≡ zs
    front [] = refl
    front (z ∷ zs) = ap (λ l. z ∷ l) (front zs)

last-of : (xs : List Pending) (y d : Pending) → get_or (xs ++ y ∷ []) (length (xs ++ y ∷ []) - 1) d ≡ y
last-of xs y d =
    let n : length (xs ++ y ∷ []) - 1 ≡ length xs = omega (arith, length-append xs (y ∷ [])) in
    ap (λ k. get_or (xs ++ y ∷ []) k d) n ∙ get_or-append_seam xs y [] d

-- the stack with its last taken off
pub record Popped (qs : List Pending) (rest : List Pending) (x : Pending) : Type 0 where
  pub inner : List Pending
  pub are : qs ≡ x ∷ inner
  pub rest_is : rest ≡ backed inner

pub popped : (qs rest : List Pending) (x : Pending) → rest ++ x ∷ [] ≡ backed qs → Popped qs rest x
popped [] rest x e = absurd (omega (arith, ap length e, length-append rest (x ∷ [])))
popped (q ∷ qs) rest x e =
    let same : x ≡ q = sym (last-of rest x x) ∙ ap (λ l. get_or l (length l - 1) x) e ∙ last-of (backed qs) q x in
    record {
      inner = qs;
      are = ap (λ y. y ∷ qs) (sym same);
      rest_is = sym (take-but_last rest x) ∙ ap (λ l. take (length l - 1) l) e ∙ take-but_last (backed qs) q;
    }

pub settled_on : (ps qs : List Pending) (rest grown : List Pending) (x : Pending) (out0 out : List Cell) → rest ++ x ∷ [] ≡ backed qs → settle ps out0 ≡ settle qs out → 1 < x.missing → grown ≡ rest ++ waits x.cell (x.missing - 1) ∷ [] → (grown ≡ backed (settle ps out0).0) × (out ≡ (settle ps out0).1)
settled_on ps qs rest grown x out0 out e same more g =
    let p = popped qs rest x e in
    let done : settle ps out0 ≡ (waits x.cell (x.missing - 1) ∷ p.inner, out) = same ∙ ap (λ l. settle l out) p.are ∙ cond-true (nat_lt 1 x.missing) _ _ (lt-ltb 1 x.missing more) in
    (g ∙ ap (λ l. l ++ waits x.cell (x.missing - 1) ∷ []) p.rest_is ∙ ap (λ s. backed s.0) (sym done), ap (λ s. s.1) (sym done))

pub settled_more : (ps qs : List Pending) (rest : List Pending) (x : Pending) (out0 out new : List Cell) → rest ++ x ∷ [] ≡ backed qs → settle ps out0 ≡ settle qs out → x.missing ≤ 1 → new ≡ out ++ x.cell ∷ [] → (rs : List Pending) × (rest ≡ backed rs) × (settle ps out0 ≡ settle rs new)
settled_more ps qs rest x out0 out new e same few g =
    let p = popped qs rest x e in
    (p.inner, p.rest_is, same ∙ ap (λ l. settle l out) p.are ∙ cond-false (nat_lt 1 x.missing) _ _ (le-ltb 1 x.missing few) ∙ ap (settle p.inner) (sym g))

pub settled_empty : (ps qs : List Pending) (now : List Pending) (out0 out : List Cell) → length (backed qs) ≡ 0 → now ≡ backed qs → settle ps out0 ≡ settle qs out → (now ≡ backed (settle ps out0).0) × (out ≡ (settle ps out0).1)
settled_empty ps [] now out0 out e h same = (h ∙ ap (λ s. backed s.0) (sym same), ap (λ s. s.1) (sym same))
settled_empty ps (q ∷ qs) now out0 out e h same = absurd (omega (arith, length-append (backed qs) (q ∷ [])))

pub reverse-back : (xs : List Cell) → reverse (back xs) ≡ xs
reverse-back [] = refl
reverse-back (x ∷ xs) = reverse-append (back xs) (x ∷ []) ∙ ap (λ l. x ∷ l) (reverse-back xs)
