-- The arguments of goals.
use Rattle.std.proofs.Common.{◌≡◌, ℕ, zero, suc, ◌+◌, ◌<◌, ◌≤◌, List, [], ◌∷◌, ◌++◌, refl, sym, ap, ◌∙◌, subst, arith, length, take, map}
use Rattle.std.proofs.lemmas.List.{take_all, map-append}
use Rattle.std.specs.List.{All}
use Rattle.std.proofs.lemmas.List.Elements.{All-push}
use Rattle.pl_atoms.specs.declared.names.NameId.{NameId}
use Rattle.pl_terms.specs.Trees.{Tree, var, int, atom, comp, Trees, nil, cons, count}
use Rattle.pl_unify.specs.declared.word.Ref.{Ref}
use Rattle.pl_unify.specs.declared.word.View.TheVariants as V
use Rattle.pl_unify.specs.Shape.{root, arity, argument, nth_tree}
use Rattle.pl_unify.specs.State.{State, tree_at, IsRef}
use Rattle.builtin_model.specs.Lists.{listed}
use Rattle.goal_constructs.specs.Goals.{arguments_of}

listed-length : (ts : Trees ℕ) → length (listed ts) ≡ count ts
listed-length nil = refl
listed-length (cons t ts) = ap suc (listed-length ts)

take-nth : (ts : Trees ℕ) (k : ℕ) → k < count ts → take (suc k) (listed ts) ≡ take k (listed ts) ++ nth_tree ts k ∷ []
take-nth nil k lt = absurd (omega (arith, lt))
take-nth (cons t ts) zero lt = refl
take-nth (cons t ts) (suc k) lt = ap (λ l. t ∷ l) (take-nth ts k (omega (arith, lt)))

argument-nth : (t : Tree ℕ) (k : ℕ) → argument t k ≡ nth_tree (arguments_of t) k
argument-nth (var v) k = refl
argument-nth (int z) k = refl
argument-nth (atom a) k = refl
argument-nth (comp f ts) k = refl

arity-count : (t : Tree ℕ) → arity t ≡ count (arguments_of t)
arity-count (var v) = refl
arity-count (int z) = refl
arity-count (atom a) = refl
arity-count (comp f ts) = refl

pub arity-root : (t : Tree ℕ) (f : NameId) (k : ℕ) → root t ≡ V.Comp f k → k ≡ arity t
arity-root (var v) f k h = cc
arity-root (int z) f k h = cc
arity-root (atom a) f k h = cc
arity-root (comp g ts) f k h = cc

-- the places of the first arguments
pub record AreFirst (s : State) (t : Tree ℕ) (k : ℕ) (items : List Ref) : Type 0 where
  pub places : All (λ r. IsRef s r) items
  pub trees : map (tree_at s) items ≡ take k (listed (arguments_of t))

pub first-more : (s : State) (t : Tree ℕ) (k j : ℕ) (items more : List Ref) (r : Ref) → k < arity t → AreFirst s t k items → IsRef s r → tree_at s r ≡ argument t k → more ≡ items ++ r ∷ [] → j ≡ k + 1 → AreFirst s t j more
first-more s t k j items more r lt h is tree grown next = record {
  places = subst (All (λ r. IsRef s r)) (sym grown) (All-push (λ r. IsRef s r) items r h.places is);
  trees =
      let e : suc k ≡ j = omega (arith, next) in
      ap (map (tree_at s)) grown
      ∙ map-append (tree_at s) items (r ∷ [])
      ∙ ap (λ l. l ++ tree_at s r ∷ []) h.trees
      ∙ ap (λ u. take k (listed (arguments_of t)) ++ u ∷ []) (tree ∙ argument-nth t k)
      ∙ sym (take-nth (arguments_of t) k (omega (arith, lt, arity-count t)))
      ∙ ap (λ i. take i (listed (arguments_of t))) e;
}

pub first-all : (s : State) (t : Tree ℕ) (k : ℕ) (items : List Ref) → arity t ≤ k → AreFirst s t k items → map (tree_at s) items ≡ listed (arguments_of t)
first-all s t k items le h = h.trees ∙ take_all k (listed (arguments_of t)) (omega (arith, le, arity-count t, listed-length (arguments_of t)))

pub bare : (t : Tree ℕ) → ((f : NameId) (k : ℕ) → root t ≡ V.Comp f k → ⊥) → [] ≡ listed (arguments_of t)
bare (var v) h = refl
bare (int z) h = refl
bare (atom a) h = refl
bare (comp f ts) h = absurd (h (record { 0 = f }) (count ts) refl)
