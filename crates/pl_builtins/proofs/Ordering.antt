-- Steps of a comparison.
use Rattle.std.proofs.Common.{◌≡◌, ◌≢◌, ◌∙◌, ℕ, zero, suc, ◌<◌, List, ◌∷◌, refl, ap, sym, subst, arith}
use Rattle.std.specs.declared.cmp.Ordering.{Ordering}
use Rattle.std.specs.declared.cmp.Ordering.TheVariants.{Less, Equal, Greater}
use Rattle.std.specs.Ordering.{nat_cmp, int_cmp, ordering_then}
use Rattle.pl_terms.specs.Trees.{Tree, Trees, var, int, atom, comp, nil, cons, count}
use Rattle.pl_terms.specs.Order.{tree_cmp, trees_cmp}
use Rattle.pl_terms.specs.CellOrder.{name_cmp}
use Rattle.unifier_model.specs.Substitution.{size, sizes}
use Rattle.pl_unify.specs.declared.word.Ref.{Ref}
use Rattle.pl_unify.specs.Shape.{root, argument, arity, nth_tree}
use Rattle.pl_unify.specs.State.{State, tree_at, IsRef}
use Rattle.pl_builtins.specs.Ordered.{root_cmp, pairs_cmp, PairsOk, left_size, Compared, args_of, from, ArgumentsOn}

then-assoc : (a b c : Ordering) → ordering_then (ordering_then a b) c ≡ ordering_then a (ordering_then b c)
then-assoc Less b c = refl
then-assoc Equal b c = refl
then-assoc Greater b c = refl

then-equal : (a : Ordering) → ordering_then a Equal ≡ a
then-equal Less = refl
then-equal Equal = refl
then-equal Greater = refl

-- two trees stand to each other as their roots do, and then as their arguments
tree_cmp-root : (names : List (List ℕ)) (t u : Tree ℕ) → tree_cmp (name_cmp names) t u ≡ ordering_then (root_cmp names (root t) (root u)) (trees_cmp (name_cmp names) (args_of t) (args_of u))
tree_cmp-root names (var n) (var m) = sym (then-equal (nat_cmp n m))
tree_cmp-root names (var n) (int m) = refl
tree_cmp-root names (var n) (atom m) = refl
tree_cmp-root names (var n) (comp g us) = refl
tree_cmp-root names (int n) (var m) = refl
tree_cmp-root names (int n) (int m) = sym (then-equal (int_cmp n m))
tree_cmp-root names (int n) (atom m) = refl
tree_cmp-root names (int n) (comp g us) = refl
tree_cmp-root names (atom n) (var m) = refl
tree_cmp-root names (atom n) (int m) = refl
tree_cmp-root names (atom n) (atom m) = sym (then-equal (name_cmp names n m))
tree_cmp-root names (atom n) (comp g us) = refl
tree_cmp-root names (comp f ts) (var m) = refl
tree_cmp-root names (comp f ts) (int m) = refl
tree_cmp-root names (comp f ts) (atom m) = refl
tree_cmp-root names (comp f ts) (comp g us) = sym (then-assoc (nat_cmp (count ts) (count us)) (name_cmp names f g) (trees_cmp (name_cmp names) ts us))

from-none : (ts : Trees ℕ) → from zero ts ≡ ts
from-none nil = refl
from-none (cons t ts) = refl

from-step : (ts : Trees ℕ) (i : ℕ) → i < count ts → from i ts ≡ cons (nth_tree ts i) (from (suc i) ts)
from-step nil i h = absurd (omega arith)
from-step (cons t ts) zero h = ap (cons t) (sym (from-none ts))
from-step (cons t ts) (suc i) h = from-step ts i (omega arith)

from-all : (ts : Trees ℕ) (i : ℕ) → i ≡ count ts → from i ts ≡ nil
from-all nil i h = refl
from-all (cons t ts) zero h = absurd (omega arith)
from-all (cons t ts) (suc i) h = from-all ts i (omega arith)

argument-args : (t : Tree ℕ) (i : ℕ) → argument t i ≡ nth_tree (args_of t) i
argument-args (var n) i = refl
argument-args (int n) i = refl
argument-args (atom n) i = refl
argument-args (comp f ts) i = refl

arity-args : (t : Tree ℕ) → arity t ≡ count (args_of t)
arity-args (var n) = refl
arity-args (int n) = refl
arity-args (atom n) = refl
arity-args (comp f ts) = refl

-- all arguments are on
pub arguments-none : (s : State) (p q : Ref) (k : ℕ) (old : List (Ref × Ref)) → k ≡ arity (tree_at s p) → k ≡ arity (tree_at s q) → ArgumentsOn s p q k old old
arguments-none s p q k old ep eq =
    let fp : from k (args_of (tree_at s p)) ≡ nil = from-all (args_of (tree_at s p)) k (ep ∙ arity-args (tree_at s p)) in
    let fq : from k (args_of (tree_at s q)) ≡ nil = from-all (args_of (tree_at s q)) k (eq ∙ arity-args (tree_at s q)) in
    record {
      same = λ names. sym (ap (λ ts. ordering_then (trees_cmp (name_cmp names) ts (from k (args_of (tree_at s q)))) (pairs_cmp s names old)) fp
          ∙ ap (λ us. ordering_then (trees_cmp (name_cmp names) nil us) (pairs_cmp s names old)) fq);
      ok = λ h. h;
      smaller = omega (arith, ap sizes fp);
    }

-- one argument more is on
pub arguments-more : (s : State) (p q a b : Ref) (i k : ℕ) (old mid new : List (Ref × Ref)) → k ≡ arity (tree_at s p) → k ≡ arity (tree_at s q) → i < k
    → IsRef s a → tree_at s a ≡ argument (tree_at s p) i → IsRef s b → tree_at s b ≡ argument (tree_at s q) i
    → new ≡ (a, b) ∷ mid → ArgumentsOn s p q (suc i) old mid → ArgumentsOn s p q i old new
arguments-more s p q a b i k old mid new ep eq low ra ta rb tb e h =
    let fp : from i (args_of (tree_at s p)) ≡ cons (tree_at s a) (from (suc i) (args_of (tree_at s p))) =
    from-step (args_of (tree_at s p)) i (omega (arith, arity-args (tree_at s p))) ∙ ap (λ t. cons t (from (suc i) (args_of (tree_at s p)))) (sym (ta ∙ argument-args (tree_at s p) i)) in
    let fq : from i (args_of (tree_at s q)) ≡ cons (tree_at s b) (from (suc i) (args_of (tree_at s q))) =
    from-step (args_of (tree_at s q)) i (omega (arith, arity-args (tree_at s q))) ∙ ap (λ t. cons t (from (suc i) (args_of (tree_at s q)))) (sym (tb ∙ argument-args (tree_at s q) i)) in
    record {
      same = λ names. ap (pairs_cmp s names) e ∙ (ap (ordering_then (tree_cmp (name_cmp names) (tree_at s a) (tree_at s b))) (h.same names)
          ∙ (sym (then-assoc (tree_cmp (name_cmp names) (tree_at s a) (tree_at s b)) _ (pairs_cmp s names old))
          ∙ (ap (λ ts. ordering_then (trees_cmp (name_cmp names) ts (cons (tree_at s b) (from (suc i) (args_of (tree_at s q))))) (pairs_cmp s names old)) (sym fp)
          ∙ ap (λ us. ordering_then (trees_cmp (name_cmp names) (from i (args_of (tree_at s p))) us) (pairs_cmp s names old)) (sym fq))));
      ok = λ z. subst (PairsOk s) (sym e) ((ra, rb), h.ok z);
      smaller = omega (arith, ap (left_size s) e, h.smaller, ap sizes fp);
    }

size-args : (t : Tree ℕ) → sizes (from zero (args_of t)) < size t
size-args (var m) = omega arith
size-args (int m) = omega arith
size-args (atom m) = omega arith
size-args (comp f ts) = omega (arith, ap sizes (from-none ts))

-- the roots are equal, and the arguments were put on
pub compared-equal : (s : State) (names : List (List ℕ)) (p q : Ref) (old new : List (Ref × Ref)) (o : Ordering) → o ≡ root_cmp names (root (tree_at s p)) (root (tree_at s q)) → o ≡ Equal → ArgumentsOn s p q 0 old new → Compared s names ((p, q) ∷ old) new o
compared-equal s names p q old new o e z h =
    let tp : Tree ℕ = tree_at s p in
    let tq : Tree ℕ = tree_at s q in
    record {
      same = ap (λ x. ordering_then x (pairs_cmp s names new)) z ∙ (h.same names
          ∙ (ap (λ ts. ordering_then (trees_cmp (name_cmp names) ts (from zero (args_of tq))) (pairs_cmp s names old)) (from-none (args_of tp))
          ∙ (ap (λ us. ordering_then (trees_cmp (name_cmp names) (args_of tp) us) (pairs_cmp s names old)) (from-none (args_of tq))
          ∙ ap (λ x. ordering_then x (pairs_cmp s names old)) (sym (tree_cmp-root names tp tq ∙ ap (λ x. ordering_then x (trees_cmp (name_cmp names) (args_of tp) (args_of tq))) (sym e ∙ z))))));
      ok = λ k. h.ok k.1;
      smaller = omega (arith, h.smaller, size-args tp);
    }

-- the roots differ
pub compared-other : (s : State) (names : List (List ℕ)) (p q : Ref) (old : List (Ref × Ref)) (o : Ordering) → o ≡ root_cmp names (root (tree_at s p)) (root (tree_at s q)) → o ≢ Equal → Compared s names ((p, q) ∷ old) old o
compared-other s names p q old Equal e n = absurd (n refl)
compared-other s names p q old Less e n = record {
  same = ap (λ x. ordering_then x (pairs_cmp s names old)) (sym (tree_cmp-root names (tree_at s p) (tree_at s q) ∙ ap (λ x. ordering_then x (trees_cmp (name_cmp names) (args_of (tree_at s p)) (args_of (tree_at s q)))) (sym e)));
  ok = λ h. h.1;
  smaller = omega (arith, size-args (tree_at s p));
}
compared-other s names p q old Greater e n = record {
  same = ap (λ x. ordering_then x (pairs_cmp s names old)) (sym (tree_cmp-root names (tree_at s p) (tree_at s q) ∙ ap (λ x. ordering_then x (trees_cmp (name_cmp names) (args_of (tree_at s p)) (args_of (tree_at s q)))) (sym e)));
  ok = λ h. h.1;
  smaller = omega (arith, size-args (tree_at s p));
}
