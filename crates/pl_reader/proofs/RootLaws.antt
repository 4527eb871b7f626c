-- The bounds on operands admit no other root.
use Rattle.std.proofs.Common.{◌≡◌, ℕ, ◌*◌, ◌≤◌, ◌<◌, List, [], ◌∷◌, ◌++◌, Bool, true, false, Some, refl, sym, ap, arith, subst, ◌⊎◌, inl, inr, nat_eq}
use Rattle.std.proofs.lemmas.Bool.{ne_eqb}
use Rattle.pl_ops.specs.declared.op.Kind.{Kind}
use Rattle.pl_ops.specs.declared.op.Kind.TheVariants.{Xfx as xfx, Xfy as xfy, Yfx as yfx, Fx as fx, Fy as fy, Xf as xf, Yf as yf}
use Rattle.pl_ops.specs.declared.op.Op.{Op as Operator}
use Rattle.text_model.specs.Grammar.{Parse, leaf, grouped, braced, called, listed, listed_to, prefixed, joined, conjoined, postfixed, comma_op, left_y, right_y, priority, weight, FitsLeft, FitsRight, IsGood}
use Rattle.text_model.specs.Roots.{operators, AllBelow, AllUpTo, FirstIsNotRight, IsRoot, leftmost, rightmost, RootIsTold}

right_or : (k : Kind) → (right_y k ≡ 1) ⊎ (right_y k ≡ 0)
right_or xfx = inr refl
right_or xfy = inl refl
right_or yfx = inr refl
right_or fx = inr refl
right_or fy = inl refl
right_or xf = inr refl
right_or yf = inr refl

left_y-le : (k : Kind) → left_y k ≤ 1
left_y-le xfx = omega arith
left_y-le xfy = omega arith
left_y-le yfx = omega arith
left_y-le fx = omega arith
left_y-le fy = omega arith
left_y-le xf = omega arith
left_y-le yf = omega arith

-- no infix or postfix kind is y on both sides
not_both : (k : Kind) → right_y k ≡ 1 → left_y k ≡ 0
not_both xfx h = refl
not_both xfy h = refl
not_both yfx h = absurd (cc)
not_both fx h = refl
not_both fy h = refl
not_both xf h = refl
not_both yf h = absurd (cc)

upto-append : (p : ℕ) (os ps : List Operator) → AllUpTo p os → AllUpTo p ps → AllUpTo p (os ++ ps)
upto-append p [] ps h k = k
upto-append p (o ∷ os) ps h k = (h.0, upto-append p os ps h.1 k)

upto-more : (p q : ℕ) (os : List Operator) → p ≤ q → AllUpTo p os → AllUpTo q os
upto-more p q [] le h = tt
upto-more p q (o ∷ os) le h = (omega arith, upto-more p q os le h.1)

below-of : (p q : ℕ) (os : List Operator) → p < q → AllUpTo p os → AllBelow q os
below-of p q [] lt h = tt
below-of p q (o ∷ os) lt h = (omega arith, below-of p q os lt h.1)

priority-le : (e : Parse) → 2 * priority e ≤ weight e
priority-le (leaf t) = omega arith
priority-le (grouped e) = omega arith
priority-le (braced e) = omega arith
priority-le (called s es) = omega arith
priority-le (listed es) = omega arith
priority-le (listed_to es e) = omega arith
priority-le (prefixed o s e) = omega arith
priority-le (joined l o s r) = omega arith
priority-le (conjoined l r) = omega arith
priority-le (postfixed l o s) = omega arith

right_y-le : (k : Kind) → right_y k ≤ 1
right_y-le k = elim (right_or k) [ inl e ↦ omega arith | inr e ↦ omega arith ]

operators-upto : (e : Parse) → IsGood e → AllUpTo (priority e) (operators e)
operators-upto (leaf t) good = tt
operators-upto (grouped e) good = tt
operators-upto (braced e) good = tt
operators-upto (called s es) good = tt
operators-upto (listed es) good = tt
operators-upto (listed_to es e) good = tt
operators-upto (prefixed o s e) good = (omega arith, upto-more (priority e) o.priority (operators e) (omega (arith, right_y-le o.kind, good.0.bound)) (operators-upto e good.1))
operators-upto (joined l o s r) good =
    upto-append o.priority (operators l) (o ∷ operators r)
    (upto-more (priority l) o.priority (operators l) (omega (arith, priority-le l, left_y-le o.kind, good.0.bound)) (operators-upto l good.2))
    (omega arith, upto-more (priority r) o.priority (operators r) (omega (arith, right_y-le o.kind, good.1.bound)) (operators-upto r good.3))
operators-upto (conjoined l r) good =
    upto-append comma_op.priority (operators l) (comma_op ∷ operators r)
    (upto-more (priority l) comma_op.priority (operators l) (omega (arith, priority-le l, good.0.bound)) (operators-upto l good.2))
    (omega arith, upto-more (priority r) comma_op.priority (operators r) (omega (arith, good.1.bound)) (operators-upto r good.3))
operators-upto (postfixed l o s) good =
    upto-append o.priority (operators l) (o ∷ []) (upto-more (priority l) o.priority (operators l) (omega (arith, priority-le l, left_y-le o.kind, good.0.bound)) (operators-upto l good.1)) (omega arith, tt)

-- below p there is none of priority p
first-none : (p : ℕ) (os ps : List Operator) → AllBelow p os → FirstIsNotRight p ps → FirstIsNotRight p (os ++ ps)
first-none p [] ps h k = k
first-none p (o ∷ os) ps h k =
    let e : nat_eq o.priority p ≡ false = ne_eqb o.priority p (omega arith) in
    subst (λ b. elim b as (λ _. Type 0) [ true ↦ right_y o.kind ≡ 0 | false ↦ FirstIsNotRight p (os ++ ps) ]) (sym e) (first-none p os ps h.1 k)

first-append : (p : ℕ) (os ps : List Operator) → FirstIsNotRight p os → FirstIsNotRight p ps → FirstIsNotRight p (os ++ ps)
first-append p [] ps h k = k
first-append p (o ∷ os) ps h k = go (nat_eq o.priority p) h (λ j. first-append p os ps j k)
  where
    go : (b : Bool) → (elim b as (λ _. Type 0) [ true ↦ right_y o.kind ≡ 0 | false ↦ FirstIsNotRight p os ]) → (FirstIsNotRight p os → FirstIsNotRight p (os ++ ps)) → (elim b as (λ _. Type 0) [ true ↦ right_y o.kind ≡ 0 | false ↦ FirstIsNotRight p (os ++ ps) ])
    go true j f = j
    go false j f = f j

first-one : (p : ℕ) (o : Operator) (os : List Operator) → right_y o.kind ≡ 0 → FirstIsNotRight p os → FirstIsNotRight p (o ∷ os)
first-one p o os left h = go (nat_eq o.priority p)
  where
    go : (b : Bool) → (elim b as (λ _. Type 0) [ true ↦ right_y o.kind ≡ 0 | false ↦ FirstIsNotRight p os ])
    go true = left
    go false = h

append-nil' : (os : List Operator) → os ++ [] ≡ os
append-nil' [] = refl
append-nil' (o ∷ os) = ap (λ l. o ∷ l) (append-nil' os)

first-low : (p : ℕ) (e : Parse) → IsGood e → priority e < p → FirstIsNotRight p (operators e)
first-low p e good low = subst (FirstIsNotRight p) (append-nil' (operators e)) (first-none p (operators e) [] (below-of (priority e) p (operators e) low (operators-upto e good)) tt)

cases_lt : (a b : ℕ) → a ≤ b → (a < b) ⊎ (a ≡ b)
cases_lt a b h = go (nat_eq a b) refl
  where
    go : (x : Bool) → nat_eq a b ≡ x → (a < b) ⊎ (a ≡ b)
    go true e = inr (Rattle.std.proofs.lemmas.Bool.eqb-true a b e)
    go false e = inl (omega (arith, Rattle.std.proofs.lemmas.Bool.eqb-false a b e))

-- where a term is light enough to stand left of an operator of priority p
first-light : (p : ℕ) (e : Parse) → IsGood e → weight e ≤ 2 * p → FirstIsNotRight p (operators e)
first-light p (leaf t) good light = tt
first-light p (grouped e) good light = tt
first-light p (braced e) good light = tt
first-light p (called s es) good light = tt
first-light p (listed es) good light = tt
first-light p (listed_to es e) good light = tt
first-light p (prefixed o s e) good light = elim (cases_lt o.priority p (omega arith)) [
  | inl low ↦ first-low p (prefixed o s e) good low
  | inr same ↦ elim (right_or o.kind) [
    | inl right ↦ absurd (omega arith)
    | inr left ↦ first-one p o (operators e) left (first-low p e good.1 (omega (arith, good.0.bound)))
  ]
]
first-light p (joined l o s r) good light = elim (cases_lt o.priority p (omega arith)) [
  | inl low ↦ first-low p (joined l o s r) good low
  | inr same ↦ elim (right_or o.kind) [
    | inl right ↦ absurd (omega arith)
    | inr left ↦ first-append p (operators l) (o ∷ operators r) (first-light p l good.2 (omega (arith, left_y-le o.kind, good.0.bound))) (first-one p o (operators r) left (first-low p r good.3 (omega (arith, good.1.bound))))
  ]
]
first-light p (conjoined l r) good light = first-low p (conjoined l r) good (omega arith)
first-light p (postfixed l o s) good light = elim (cases_lt o.priority p (omega arith)) [
  | inl low ↦ first-low p (postfixed l o s) good low
  | inr same ↦ elim (right_or o.kind) [
    | inl right ↦ absurd (omega arith)
    | inr left ↦ first-append p (operators l) (o ∷ []) (first-light p l good.1 (omega (arith, left_y-le o.kind, good.0.bound))) (first-one p o [] left tt)
  ]
]

parts : (x y : List Operator × Operator × List Operator) → Some x ≡ Some y → IsRoot x.0 x.1 x.2 → IsRoot y.0 y.1 y.2
parts x y e h = subst (λ z. IsRoot z.0 z.1 z.2) (same x y e) h
  where
    same : (x y : List Operator × Operator × List Operator) → Some x ≡ Some y → x ≡ y
    same x y e = cc

root-joined : (l r : Parse) (o : Operator) → IsGood l → IsGood r → FitsLeft o l → FitsRight o r → IsRoot (operators l) o (operators r)
root-joined l r o gl gr fl fr = elim (right_or o.kind) [
  | inl right ↦ leftmost right
      (below-of (priority l) o.priority (operators l) (omega (arith, priority-le l, not_both o.kind right, fl.bound)) (operators-upto l gl))
      (upto-more (priority r) o.priority (operators r) (omega (arith, fr.bound)) (operators-upto r gr))
  | inr left ↦ rightmost
      (first-append o.priority (operators l) (o ∷ []) (first-light o.priority l gl (omega (arith, left_y-le o.kind, fl.bound))) (first-one o.priority o [] left tt))
      (upto-more (priority l) o.priority (operators l) (omega (arith, priority-le l, left_y-le o.kind, fl.bound)) (operators-upto l gl))
      (below-of (priority r) o.priority (operators r) (omega (arith, fr.bound)) (operators-upto r gr))
]

pub RootIsTold-holds : RootIsTold
RootIsTold-holds (leaf t) before after o good e = absurd (cc)
RootIsTold-holds (grouped d) before after o good e = absurd (cc)
RootIsTold-holds (braced d) before after o good e = absurd (cc)
RootIsTold-holds (called s es) before after o good e = absurd (cc)
RootIsTold-holds (listed es) before after o good e = absurd (cc)
RootIsTold-holds (listed_to es d) before after o good e = absurd (cc)
RootIsTold-holds (prefixed q s d) before after o good e = parts ([], q, operators d) (before, o, after) e (elim (right_or q.kind) [
  | inl right ↦ leftmost right tt (upto-more (priority d) q.priority (operators d) (omega (arith, good.0.bound)) (operators-upto d good.1))
  | inr left ↦ rightmost (first-one q.priority q [] left tt) tt (below-of (priority d) q.priority (operators d) (omega (arith, good.0.bound)) (operators-upto d good.1))
])
RootIsTold-holds (joined l q s r) before after o good e = parts (operators l, q, operators r) (before, o, after) e (root-joined l r q good.2 good.3 good.0 good.1)
RootIsTold-holds (conjoined l r) before after o good e = parts (operators l, comma_op, operators r) (before, o, after) e (root-joined l r comma_op good.2 good.3 good.0 good.1)
RootIsTold-holds (postfixed l q s) before after o good e = parts (operators l, q, []) (before, o, after) e (root-postfixed l q good.1 good.0)
  where
    root-postfixed : (l : Parse) (q : Operator) → IsGood l → FitsLeft q l → IsRoot (operators l) q []
    root-postfixed l q gl fl = elim (right_or q.kind) [
      | inl right ↦ leftmost right (below-of (priority l) q.priority (operators l) (omega (arith, priority-le l, not_both q.kind right, fl.bound)) (operators-upto l gl)) tt
      | inr left ↦ rightmost
          (first-append q.priority (operators l) (q ∷ []) (first-light q.priority l gl (omega (arith, left_y-le q.kind, fl.bound))) (first-one q.priority q [] left tt))
          (upto-more (priority l) q.priority (operators l) (omega (arith, priority-le l, left_y-le q.kind, fl.bound)) (operators-upto l gl))
          tt
    ]
