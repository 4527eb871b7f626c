-- Steps of walks over the terms of places.
use Rattle.std.proofs.Common.{◌≡◌, ◌∙◌, ℕ, zero, suc, ◌+◌, ◌<◌, List, [], ◌∷◌, ◌++◌, reverse, map, refl, ap, sym, subst, arith}
use Rattle.std.proofs.lemmas.List.{append_assoc, reverse-append}
use Rattle.pl_terms.specs.Trees.{Tree, Trees, var, int, atom, comp, nil, cons, count, back}
use Rattle.pl_terms.specs.Occurrence.{occurrences, all_occurrences}
use Rattle.unifier_model.specs.Substitution.{size, sizes}
use Rattle.pl_unify.specs.declared.word.Ref.{Ref}
use Rattle.pl_unify.specs.declared.word.View.TheVariants as V
use Rattle.pl_unify.specs.Shape.{root, arity, argument, nth_tree}
use Rattle.pl_unify.specs.State.{State, tree_at, IsRef, Grows}
use Rattle.pl_unify.specs.Making.{AreRefs}
use Rattle.pl_builtin_terms.specs.Walk.{occurrences_at, nodes_at, arguments_of, ArgumentsOn, Entered}

pub reverse-push : {X : Type 0} (xs : List X) (x : X) → reverse (xs ++ x ∷ []) ≡ x ∷ reverse xs
reverse-push xs x = reverse-append xs (x ∷ [])

pub AreRefs-grown : (s new : State) (rs : List Ref) → Grows s new → AreRefs s rs → AreRefs new rs
AreRefs-grown s new [] g h = tt
AreRefs-grown s new (r ∷ rs) g h = (omega (arith, h.0, g.extends.more_cells), AreRefs-grown s new rs g h.1)

pub AreRefs-push : (s : State) (rs : List Ref) (r : Ref) → AreRefs s rs → IsRef s r → AreRefs s (rs ++ r ∷ [])
AreRefs-push s [] r h k = (k, tt)
AreRefs-push s (q ∷ rs) r h k = (h.0, AreRefs-push s rs r h.1 k)

-- old places keep their trees
pub map-grown : (s new : State) (rs : List Ref) → Grows s new → AreRefs s rs → map (tree_at new) rs ≡ map (tree_at s) rs
map-grown s new [] g h = refl
map-grown s new (r ∷ rs) g h = ap (λ t. t ∷ map (tree_at new) rs) (g.places r h.0) ∙ ap (λ ts. tree_at s r ∷ ts) (map-grown s new rs g h.1)

pub back-more : (ts : Trees ℕ) (k : ℕ) → k < count ts → back k ts ≡ cons (nth_tree ts k) (back (suc k) ts)
back-more nil k h = absurd (omega arith)
back-more (cons t ts) zero h = refl
back-more (cons t ts) (suc k) h = back-more ts k (omega arith)

pub back-none : (ts : Trees ℕ) (k : ℕ) → k ≡ count ts → back k ts ≡ nil
back-none nil zero e = refl
back-none nil (suc k) e = refl
back-none (cons t ts) zero e = absurd (omega arith)
back-none (cons t ts) (suc k) e = back-none ts k (omega arith)

pub arity-count : (t : Tree ℕ) → arity t ≡ count (arguments_of t)
arity-count (var n) = refl
arity-count (int z) = refl
arity-count (atom a) = refl
arity-count (comp f ts) = refl

pub argument-nth : (t : Tree ℕ) (k : ℕ) → argument t k ≡ nth_tree (arguments_of t) k
argument-nth (var n) k = refl
argument-nth (int z) k = refl
argument-nth (atom a) k = refl
argument-nth (comp f ts) k = refl

pub arguments-more : (t : Tree ℕ) (k : ℕ) → k < arity t → back k (arguments_of t) ≡ cons (argument t k) (back (suc k) (arguments_of t))
arguments-more t k h = back-more (arguments_of t) k (omega (arith, arity-count t)) ∙ ap (λ u. cons u (back (suc k) (arguments_of t))) (sym (argument-nth t k))

pub arguments-none : (s : State) (t : Tree ℕ) (k : ℕ) (old : List Ref) → k ≡ arity t → ArgumentsOn s t k old old
arguments-none s t k old e =
    let none : back k (arguments_of t) ≡ nil = back-none (arguments_of t) k (e ∙ arity-count t) in
    record {
      occurrences = ap (λ ts. all_occurrences ts ++ occurrences_at s old) (sym none);
      places = λ h. h;
      nodes = omega (arith, ap sizes none);
    }

pub arguments-on : (s : State) (t : Tree ℕ) (k j : ℕ) (old mid new : List Ref) (r : Ref) → k < arity t → j ≡ suc k → ArgumentsOn s t j old mid → new ≡ r ∷ mid → IsRef s r → tree_at s r ≡ argument t k
    → ArgumentsOn s t k old new
arguments-on s t k j old mid new r l e on n h a =
    let more : back k (arguments_of t) ≡ cons (tree_at s r) (back j (arguments_of t)) =
    arguments-more t k l ∙ (ap (λ u. cons u (back (suc k) (arguments_of t))) (sym a) ∙ ap (λ i. cons (tree_at s r) (back i (arguments_of t))) (sym e)) in
    let rest : Trees ℕ = back j (arguments_of t) in
    record {
      occurrences = ap (occurrences_at s) n ∙ (ap (λ ns. occurrences (tree_at s r) ++ ns) on.occurrences
          ∙ (sym (append_assoc (occurrences (tree_at s r)) (all_occurrences rest) (occurrences_at s old)) ∙ ap (λ ts. all_occurrences ts ++ occurrences_at s old) (sym more)));
      places = λ p. subst (AreRefs s) (sym n) (h, on.places p);
      nodes =
          let new_nodes : nodes_at s new ≡ size (tree_at s r) + nodes_at s mid = ap (nodes_at s) n in
          let all : sizes (back k (arguments_of t)) ≡ size (tree_at s r) + sizes rest = ap sizes more in
          omega (arith, new_nodes, all, on.nodes);
    }

occurrences-comp : (t : Tree ℕ) (f : _) (k : ℕ) → V.Comp f k ≡ root t → occurrences t ≡ all_occurrences (arguments_of t)
occurrences-comp (var n) f k e = cc
occurrences-comp (int z) f k e = cc
occurrences-comp (atom a) f k e = cc
occurrences-comp (comp g ts) f k e = refl

size-comp : (t : Tree ℕ) (f : _) (k : ℕ) → V.Comp f k ≡ root t → size t ≡ suc (sizes (arguments_of t))
size-comp (var n) f k e = cc
size-comp (int z) f k e = cc
size-comp (atom a) f k e = cc
size-comp (comp g ts) f k e = refl

pub entered-comp : (s : State) (at : Ref) (f : _) (k : ℕ) (old new : List Ref) → V.Comp f k ≡ root (tree_at s at) → ArgumentsOn s (tree_at s at) 0 old new → Entered s at old new
entered-comp s at f k old new e on = record {
  occurrences = on.occurrences ∙ ap (λ ns. ns ++ occurrences_at s old) (sym (occurrences-comp (tree_at s at) f k e));
  places = on.places;
  smaller = omega (arith, on.nodes, size-comp (tree_at s at) f k e);
}

pub variable-root : (t : Tree ℕ) (n : ℕ) → V.Var n ≡ root t → t ≡ var n
variable-root (var m) n e = let same : n ≡ m = cc in ap var (sym same)
variable-root (int z) n e = cc
variable-root (atom a) n e = cc
variable-root (comp f ts) n e = cc

-- a term that is neither a variable nor a compound
pub entered-constant : (s : State) (at : Ref) (old new : List Ref) → ((n : ℕ) → root (tree_at s at) ≡ V.Var n → ⊥) → ((f : _) (k : ℕ) → root (tree_at s at) ≡ V.Comp f k → ⊥) → new ≡ old → Entered s at old new
entered-constant s at old new no_var no_comp e =
    let c = constant (tree_at s at) no_var no_comp in
    record {
      occurrences = ap (occurrences_at s) e ∙ ap (λ ns. ns ++ occurrences_at s old) (sym c.0);
      places = λ p. subst (AreRefs s) (sym e) p;
      smaller = omega (arith, c.1, ap (nodes_at s) e);
    }
  where
    constant : (t : Tree ℕ) → ((n : ℕ) → root t ≡ V.Var n → ⊥) → ((f : _) (k : ℕ) → root t ≡ V.Comp f k → ⊥) → (occurrences t ≡ []) × (size t ≡ 1)
    constant (var n) no_var no_comp = absurd (no_var n refl)
    constant (int z) no_var no_comp = (refl, refl)
    constant (atom a) no_var no_comp = (refl, refl)
    constant (comp f ts) no_var no_comp = absurd (no_comp (record { 0 = f }) (count ts) refl)
