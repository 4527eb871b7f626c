-- Laws of qualified arguments.
use Rattle.std.proofs.Common.{◌≡◌, ◌∙◌, ℕ, zero, suc, ◌+◌, ◌<◌, ◌≤◌, List, [], ◌∷◌, ◌++◌, take, map, length, get_or, refl, ap, sym, arith, Bool, true, false, codes, not, if◌then◌else◌}
use Rattle.std.proofs.lemmas.List.{take_more, take_all}
use Rattle.pl_atoms.specs.declared.names.NameId.{NameId}
use Rattle.pl_terms.specs.Trees.{Tree, Trees, var, int, atom, comp, nil, cons, count}
use Rattle.pl_unify.specs.declared.word.Ref.{Ref}
use Rattle.pl_unify.specs.declared.word.View.TheVariants as V
use Rattle.pl_unify.specs.Shape.{root, arity, argument, nth_tree}
use Rattle.pl_unify.specs.Prefix.{trees, listed}
use Rattle.pl_unify.specs.State.{State, tree_at, IsRef, Grows}
use Rattle.pl_unify.specs.Making.{AreRefs}
use Rattle.builtin_model.specs.Naming.{Naming}
use Rattle.goal_model.specs.Environments.{is_qualified, in_context, qualified}
use Rattle.mod_meta.specs.Qualified.{qualified_goal, lacks_module, arguments_of}

pub AreRefs-grown : (s new : State) (rs : List Ref) → Grows s new → AreRefs s rs → AreRefs new rs
AreRefs-grown s new [] g h = tt
AreRefs-grown s new (r ∷ rs) g h = (omega (arith, h.0, g.extends.more_cells), AreRefs-grown s new rs g h.1)

pub AreRefs-push : (s : State) (rs : List Ref) (r : Ref) → AreRefs s rs → IsRef s r → AreRefs s (rs ++ r ∷ [])
AreRefs-push s [] r h k = (k, tt)
AreRefs-push s (q ∷ rs) r h k = (h.0, AreRefs-push s rs r h.1 k)

-- old places keep their trees
pub map-grown : (s new : State) (rs : List Ref) → Grows s new → AreRefs s rs → map (tree_at new) rs ≡ map (tree_at s) rs
map-grown s new [] g h = refl
map-grown s new (r ∷ rs) g h = ap (λ t. t ∷ map (tree_at new) rs) (g.places r h.0) ∙ ap (λ ts. tree_at s r ∷ ts) (map-grown s new rs g h.1)

-- lists of trees and arguments
pub length-listed : (ts : Trees ℕ) → length (listed ts) ≡ count ts
length-listed nil = refl
length-listed (cons t ts) = ap suc (length-listed ts)

pub listed-at : (ts : Trees ℕ) (k : ℕ) → get_or (listed ts) k (var 0) ≡ nth_tree ts k
listed-at nil k = refl
listed-at (cons t ts) zero = refl
listed-at (cons t ts) (suc k) = listed-at ts k

pub trees-listed : (ts : Trees ℕ) → trees (listed ts) ≡ ts
trees-listed nil = refl
trees-listed (cons t ts) = ap (cons t) (trees-listed ts)

pub count-qualified : (n : Naming ℕ) (bs : List Bool) (m : ℕ) (ts : Trees ℕ) → length bs ≡ count ts → count (qualified n bs m ts) ≡ count ts
count-qualified n [] m ts e = refl
count-qualified n (b ∷ bs) m nil e = refl
count-qualified n (b ∷ bs) m (cons t ts) e = ap suc (count-qualified n bs m ts (omega arith))

pub qualified-at : (n : Naming ℕ) (bs : List Bool) (m : ℕ) (ts : Trees ℕ) (k : ℕ) → length bs ≡ count ts → k < length bs → nth_tree (qualified n bs m ts) k ≡ in_context n m (get_or bs k false) (nth_tree ts k)
qualified-at n [] m ts k e l = absurd (omega arith)
qualified-at n (b ∷ bs) m nil k e l = absurd (omega arith)
qualified-at n (b ∷ bs) m (cons t ts) zero e l = refl
qualified-at n (b ∷ bs) m (cons t ts) (suc k) e l = qualified-at n bs m ts k (omega arith) (omega arith)

-- an argument that says its module, or needs none, stays
pub context-kept : (n : Naming ℕ) (m : ℕ) (b : Bool) (t : Tree ℕ) → lacks_module n b t ≡ false → in_context n m b t ≡ t
context-kept n m false t h = refl
context-kept n m true t h = go (is_qualified n t) h
  where
    go : (q : Bool) → not q ≡ false → (if q then t else comp (n.name (codes ":")) (cons (atom m) (cons t nil))) ≡ t
    go true h = refl
    go false h = cc

pub context-put : (n : Naming ℕ) (m : ℕ) (b : Bool) (t : Tree ℕ) → lacks_module n b t ≡ true → in_context n m b t ≡ comp (n.name (codes ":")) (cons (atom m) (cons t nil))
context-put n m false t h = cc
context-put n m true t h = go (is_qualified n t) h
  where
    go : (q : Bool) → not q ≡ true → (if q then t else comp (n.name (codes ":")) (cons (atom m) (cons t nil))) ≡ comp (n.name (codes ":")) (cons (atom m) (cons t nil))
    go true h = cc
    go false h = refl

-- what the passed arguments are, one more at a time
pub passed-more : (n : Naming ℕ) (bs : List Bool) (m : ℕ) (ts : Trees ℕ) (k : ℕ) → length bs ≡ count ts → k < length bs
    → take (k + 1) (listed (qualified n bs m ts)) ≡ take k (listed (qualified n bs m ts)) ++ in_context n m (get_or bs k false) (nth_tree ts k) ∷ []
passed-more n bs m ts k e l =
    let us : Trees ℕ = qualified n bs m ts in
    let below : k < length (listed us) = omega (arith, length-listed us, count-qualified n bs m ts e) in
    take_more (listed us) k (var 0) below ∙ ap (λ t. take k (listed us) ++ t ∷ []) (listed-at us k ∙ qualified-at n bs m ts k e l)

pub passed-all : (n : Naming ℕ) (bs : List Bool) (m : ℕ) (ts : Trees ℕ) (k : ℕ) → length bs ≡ count ts → length bs ≤ k
    → take k (listed (qualified n bs m ts)) ≡ listed (qualified n bs m ts)
passed-all n bs m ts k e l = take_all k (listed (qualified n bs m ts)) (omega (arith, length-listed (qualified n bs m ts), count-qualified n bs m ts e))

pub kept-more : (n : Naming ℕ) (bs : List Bool) (m : ℕ) (ts : Trees ℕ) (k : ℕ) → length bs ≡ count ts → k < length bs → lacks_module n (get_or bs k false) (nth_tree ts k) ≡ false
    → take k (listed (qualified n bs m ts)) ≡ take k (listed ts) → take (k + 1) (listed (qualified n bs m ts)) ≡ take (k + 1) (listed ts)
kept-more n bs m ts k e l h same =
    passed-more n bs m ts k e l
    ∙ (ap (λ xs. xs ++ in_context n m (get_or bs k false) (nth_tree ts k) ∷ []) same
    ∙ (ap (λ t. take k (listed ts) ++ t ∷ []) (context-kept n m (get_or bs k false) (nth_tree ts k) h ∙ sym (listed-at ts k))
    ∙ sym (take_more (listed ts) k (var 0) (omega (arith, length-listed ts)))))

pub kept-all : (n : Naming ℕ) (bs : List Bool) (m : ℕ) (t : Tree ℕ) (k : ℕ) → length bs ≡ arity t → length bs ≤ k
    → take k (listed (qualified n bs m (arguments_of t))) ≡ take k (listed (arguments_of t)) → qualified_goal n bs m t ≡ t
kept-all n bs m (var v) k e l h = refl
kept-all n bs m (int z) k e l h = refl
kept-all n bs m (atom a) k e l h = refl
kept-all n bs m (comp f ts) k e l h =
    let same : listed (qualified n bs m ts) ≡ listed ts = sym (passed-all n bs m ts k e l) ∙ (h ∙ take_all k (listed ts) (omega (arith, length-listed ts))) in
    ap (comp f) (sym (trees-listed (qualified n bs m ts)) ∙ (ap trees same ∙ trees-listed ts))

pub arity-count : (t : Tree ℕ) → arity t ≡ count (arguments_of t)
arity-count (var v) = refl
arity-count (int z) = refl
arity-count (atom a) = refl
arity-count (comp f ts) = refl

pub argument-nth : (t : Tree ℕ) (k : ℕ) → argument t k ≡ nth_tree (arguments_of t) k
argument-nth (var v) k = refl
argument-nth (int z) k = refl
argument-nth (atom a) k = refl
argument-nth (comp f ts) k = refl

-- the goal of the passed arguments
pub goal-made : (n : Naming ℕ) (bs : List Bool) (m : ℕ) (t : Tree ℕ) (f : NameId) (k : ℕ) (us : List (Tree ℕ)) → V.Comp f k ≡ root t → us ≡ listed (qualified n bs m (arguments_of t)) → comp f.0 (trees us) ≡ qualified_goal n bs m t
goal-made n bs m (var v) f k us r e = cc
goal-made n bs m (int z) f k us r e = cc
goal-made n bs m (atom a) f k us r e = cc
goal-made n bs m (comp g ts) f k us r e =
    let name : f ≡ record { 0 = g } = cc in
    ap (λ (h : NameId). comp h.0 (trees us)) name ∙ ap (comp g) (ap trees e ∙ trees-listed (qualified n bs m ts))

-- an old place keeps its tree over two steps
pub place-kept : (s0 s1 s : State) (r : Ref) → Grows s0 s1 → Grows s1 s → IsRef s0 r → tree_at s r ≡ tree_at s0 r
place-kept s0 s1 s r g h l = h.places r (omega (arith, l, g.extends.more_cells)) ∙ g.places r l
