-- Goals with arguments added, step by step.
use Rattle.std.proofs.Common.{◌≡◌, ◌∙◌, ℕ, zero, suc, ◌+◌, ◌<◌, ◌≤◌, true, false, nat_eq, nat_lt, List, [], ◌∷◌, ◌++◌, length, map, Ok, Err, refl, sym, ap, subst, arith, if◌then◌else◌}
use Rattle.std.proofs.lemmas.List.{append_assoc, map-append, length-map}
use Rattle.pl_atoms.specs.declared.names.NameId.{NameId}
use Rattle.pl_terms.specs.Trees.{Tree, var, int, atom, comp, Trees, nil, cons, count, append, back}
use Rattle.unifier_model.specs.Substitution.{size}
use Rattle.pl_unify.specs.declared.word.Ref.{Ref}
use Rattle.pl_unify.specs.declared.word.View.TheVariants as V
use Rattle.pl_unify.specs.Prefix.{trees}
use Rattle.pl_unify.specs.Shape.{root, argument, nth_tree}
use Rattle.pl_unify.specs.State.{State, Grows, tree_at, IsRef}
use Rattle.pl_unify.specs.Making.{AreRefs}
use Rattle.builtin_model.specs.Naming.{Naming}
use Rattle.builtin_model.specs.Faults.{max_arity, fault_tree}
use Rattle.builtin_model.specs.Lists.{listed}
use Rattle.goal_model.specs.Bodies.{under, added, with_arguments, goal_of, goal_with, called}
use Rattle.goal_code.proofs.Shaping.{binary_root}
use Rattle.goal_constructs.specs.declared.constructs.Constructs.{Constructs}
use Rattle.goal_constructs.specs.declared.calling.Called.TheVariants as C
use Rattle.goal_constructs.specs.Goals.{arguments_of, called_term, more_arguments}
use Rattle.goal_constructs.specs.Conjuncts.{Appends}
use Rattle.goal_constructs.specs.Calling.{IsQualified, wrapped, Inner, Pushed}
use Rattle.goal_constructs.proofs.ConjunctLaws.{pair-size, AreRefs-push}
use Rattle.goal_constructs.proofs.ConversionLaws.{map-grown}

-- ---- modules in front

pub qualified-is : (c : Constructs) (s : State) (t : Tree ℕ) (f : NameId) (m u : Ref) → root t ≡ V.Comp f 2 → f.0 ≡ c.names.colon.0 → nat_eq f.0 c.names.colon.0 ≡ true → IsRef s m → IsRef s u
    → tree_at s m ≡ argument t 0 → tree_at s u ≡ argument t 1 → IsQualified c s t m u
qualified-is c s t f m u h e is pm pu tm tu = record {
  left = pm;
  right = pu;
  adds = λ n are whole us g k.
      ap (λ x. added n whole us x g k) (binary_root t f h)
      ∙ (ap (λ b. if b then under (λ v. comp f.0 (cons (argument t 0) (cons v nil))) (added n whole us (argument t 1) g k) else with_arguments n f.0 (append (cons (argument t 0) (cons (argument t 1) nil)) us) g k)
      (are.names.colon.known f.0 ∙ is)
      ∙ (ap (λ x. under (λ v. comp x (cons (argument t 0) (cons v nil))) (added n whole us (argument t 1) g k)) e
      ∙ (ap (λ x. under (λ v. comp c.names.colon.0 (cons x (cons v nil))) (added n whole us (argument t 1) g k)) (sym tm)
      ∙ ap (λ x. under (λ v. comp c.names.colon.0 (cons (tree_at s m) (cons v nil))) (added n whole us x g k)) (sym tu))));
  smaller = omega (arith, pair-size t f h, ap size tu);
}

pub inner-begin : (c : Constructs) (s : State) (at : Ref) → IsRef s at → Inner c s (tree_at s at) [] at
inner-begin c s at h = record { here = h; places = tt; adds = λ n are whole us f k. refl }

pub inner-more : (c : Constructs) (s : State) (t : Tree ℕ) (ms : List Ref) (at m u : Ref) → Inner c s t ms at → IsQualified c s (tree_at s at) m u → Inner c s t (m ∷ ms) u
inner-more c s t ms at m u h q = record {
  here = q.right;
  places = (q.left, h.places);
  adds = λ n are whole us f k. h.adds n are whole us f k ∙ ap (wrapped c.names.colon.0 (map (tree_at s) ms)) (q.adds n are whole us f k);
}

pub wrapped-more : (f : ℕ) (old new : State) (m made next : Ref) (ms : List Ref) → Grows old new → AreRefs old ms → tree_at new next ≡ comp f (cons (tree_at old m) (cons (tree_at old made) nil))
    → wrapped f (map (tree_at old) (m ∷ ms)) (Ok (tree_at old made)) ≡ wrapped f (map (tree_at new) ms) (Ok (tree_at new next))
wrapped-more f old new m made next ms g h e =
    ap (λ ts. wrapped f ts (Ok (comp f (cons (tree_at old m) (cons (tree_at old made) nil))))) (sym (map-grown old new ms g h)) ∙ ap (λ t. wrapped f (map (tree_at new) ms) (Ok t)) (sym e)

pub wrapped-error : (f : ℕ) (ms : List (Tree ℕ)) (b : Tree ℕ) → wrapped f ms (Err b) ≡ Err b
wrapped-error f [] b = refl
wrapped-error f (m ∷ ms) b = wrapped-error f ms b

-- ---- arguments

back-more : (ts : Trees ℕ) (k : ℕ) → k < count ts → back k ts ≡ cons (nth_tree ts k) (back (suc k) ts)
back-more nil k h = absurd (omega arith)
back-more (cons t ts) zero h = refl
back-more (cons t ts) (suc k) h = back-more ts k (omega arith)

back-past : (ts : Trees ℕ) (k : ℕ) → count ts ≤ k → back k ts ≡ nil
back-past nil zero h = refl
back-past nil (suc k) h = refl
back-past (cons t ts) zero h = absurd (omega arith)
back-past (cons t ts) (suc k) h = back-past ts k (omega arith)

argument-nth : (t : Tree ℕ) (k : ℕ) → argument t k ≡ nth_tree (arguments_of t) k
argument-nth (var n) k = refl
argument-nth (int z) k = refl
argument-nth (atom a) k = refl
argument-nth (comp f ts) k = refl

append-empty : {X : Type 0} (xs : List X) → xs ++ [] ≡ xs
append-empty [] = refl
append-empty (x ∷ xs) = ap (λ ys. x ∷ ys) (append-empty xs)

module _ (s : State) (old : List Ref) (t : Tree ℕ) (start : ℕ) where
  pub pushed-none : Pushed s old old t start start
  pushed-none = record { items = []; list = sym (append-empty old); places = tt; trees = refl }

  pub pushed-more : (new next : List Ref) (k j : ℕ) (r : Ref) → Pushed s old new t start k → k < count (arguments_of t) → j ≡ suc k → IsRef s r → tree_at s r ≡ argument t k → next ≡ new ++ r ∷ [] → Pushed s old next t start j
  pushed-more new next k j r p lt e h a n = record {
    items = p.items ++ r ∷ [];
    list = n ∙ (ap (λ xs. xs ++ r ∷ []) p.list ∙ append_assoc old p.items (r ∷ []));
    places = AreRefs-push s p.items r p.places h;
    trees =
        let rest : List (Tree ℕ) = listed (back j (arguments_of t)) in
        let first : listed (back k (arguments_of t)) ≡ tree_at s r ∷ rest =
        ap listed (back-more (arguments_of t) k lt) ∙ (ap (λ x. x ∷ listed (back (suc k) (arguments_of t))) (sym (argument-nth t k) ∙ sym a) ∙ ap (λ i. tree_at s r ∷ listed (back i (arguments_of t))) (sym e)) in
        p.trees ∙ (ap (λ xs. map (tree_at s) p.items ++ xs) first
        ∙ (sym (append_assoc (map (tree_at s) p.items) (tree_at s r ∷ []) rest) ∙ ap (λ xs. xs ++ rest) (sym (map-append (tree_at s) p.items (r ∷ [])))));
  }

  pub pushed-all : (new : List Ref) (k : ℕ) → Pushed s old new t start k → count (arguments_of t) ≤ k → Appends s old new (listed (back start (arguments_of t)))
  pushed-all new k p h = record {
    items = p.items;
    list = p.list;
    places = p.places;
    trees = sym (p.trees ∙ (ap (λ ts. map (tree_at s) p.items ++ listed ts) (back-past (arguments_of t) k h) ∙ append-empty (map (tree_at s) p.items)));
  }

-- the arguments of a term, and behind them those of a goal behind its first one
pub record Parts (s : State) (ps : List Ref) (ts : Trees ℕ) : Type 0 where
  pub places : AreRefs s ps
  pub trees : map (tree_at s) ps ≡ listed ts
  pub count : length ps ≡ count ts

listed-append : (ts us : Trees ℕ) → listed (append ts us) ≡ listed ts ++ listed us
listed-append nil us = refl
listed-append (cons t ts) us = ap (λ xs. t ∷ xs) (listed-append ts us)

pub trees-listed : (ts : Trees ℕ) → trees (listed ts) ≡ ts
trees-listed nil = refl
trees-listed (cons t ts) = ap (cons t) (trees-listed ts)

length-listed : (ts : Trees ℕ) → length (listed ts) ≡ count ts
length-listed nil = refl
length-listed (cons t ts) = ap suc (length-listed ts)

AreRefs-append : (s : State) (xs ys : List Ref) → AreRefs s xs → AreRefs s ys → AreRefs s (xs ++ ys)
AreRefs-append s [] ys h k = k
AreRefs-append s (x ∷ xs) ys h k = (h.0, AreRefs-append s xs ys h.1 k)

more-back : (t : Tree ℕ) → back 1 (arguments_of t) ≡ more_arguments t
more-back (var v) = refl
more-back (int z) = refl
more-back (atom a) = refl
more-back (comp f nil) = refl
more-back (comp f (cons t ts)) = refl

pub parts-are : (s : State) (none first all : List Ref) (inner goal : Tree ℕ) → none ≡ [] → Appends s none first (listed (back 0 (arguments_of inner))) → Appends s first all (listed (back 1 (arguments_of goal)))
    → Parts s all (append (arguments_of inner) (more_arguments goal))
parts-are s none first all inner goal e a b =
    let ts : Trees ℕ = arguments_of inner in
    let us : Trees ℕ = more_arguments goal in
    let f : first ≡ a.items = a.list ∙ ap (λ xs. xs ++ a.items) e in
    let whole : all ≡ a.items ++ b.items = b.list ∙ ap (λ xs. xs ++ b.items) f in
    let tree : map (tree_at s) all ≡ listed (append ts us) =
    ap (map (tree_at s)) whole ∙ (map-append (tree_at s) a.items b.items ∙ (ap (λ xs. xs ++ map (tree_at s) b.items) a.trees
    ∙ (ap (λ xs. listed ts ++ xs) (b.trees ∙ ap listed (more-back goal)) ∙ sym (listed-append ts us)))) in
    record {
      places = subst (AreRefs s) (sym whole) (AreRefs-append s a.items b.items a.places b.places);
      trees = tree;
      count = sym (length-map all (tree_at s)) ∙ (ap length tree ∙ length-listed (append ts us));
    }

count-append : (ts us : Trees ℕ) → count (append ts us) ≡ count ts + count us
count-append nil us = omega arith
count-append (cons t ts) us = omega (arith, count-append ts us)

pub count-more : (t : Tree ℕ) → 2 ≤ count (arguments_of t) → 1 ≤ count (more_arguments t)
count-more (var v) h = absurd (omega (arith, h))
count-more (int z) h = absurd (omega (arith, h))
count-more (atom a) h = absurd (omega (arith, h))
count-more (comp f nil) h = absurd (omega (arith, h))
count-more (comp f (cons t ts)) h = omega (arith, h)

pub some-parts : (s : State) (ps : List Ref) (inner goal : Tree ℕ) → Parts s ps (append (arguments_of inner) (more_arguments goal)) → 2 ≤ count (arguments_of goal) → 1 ≤ length ps
some-parts s ps inner goal p h = omega (arith, p.count, count-append (arguments_of inner) (more_arguments goal), count-more goal h)

module _ (n : Naming ℕ) (s : ℕ) (ts : Trees ℕ) (f k : ℕ) where
  pub too-many : nat_lt 255 (count ts) ≡ true → with_arguments n s ts f k ≡ Err (fault_tree n max_arity f k)
  too-many e = ap (λ b. if b then Err (fault_tree n max_arity f k) else Ok (comp s ts)) e

  pub few-enough : nat_lt 255 (count ts) ≡ false → with_arguments n s ts f k ≡ Ok (comp s ts)
  few-enough e = ap (λ b. if b then Err (fault_tree n max_arity f k) else Ok (comp s ts)) e

-- ---- calls

pub called-alone : (n : Naming ℕ) (g : Tree ℕ) (f k : ℕ) → count (arguments_of g) ≡ 0 → called n (called_term g) (more_arguments g) f k ≡ goal_of n g f k
called-alone n (var v) f k h = refl
called-alone n (int z) f k h = refl
called-alone n (atom a) f k h = refl
called-alone n (comp s nil) f k h = refl
called-alone n (comp s (cons t ts)) f k h = absurd (omega (arith, h))

pub called-one : (n : Naming ℕ) (g : Tree ℕ) (f k : ℕ) → count (arguments_of g) ≡ 1 → called n (called_term g) (more_arguments g) f k ≡ goal_of n (argument g 0) f k
called-one n (var v) f k h = absurd (omega (arith, h))
called-one n (int z) f k h = absurd (omega (arith, h))
called-one n (atom a) f k h = absurd (omega (arith, h))
called-one n (comp s nil) f k h = absurd (omega (arith, h))
called-one n (comp s (cons t nil)) f k h = refl
called-one n (comp s (cons t (cons u us))) f k h = absurd (omega (arith, h))

pub called-more : (n : Naming ℕ) (g : Tree ℕ) (f k : ℕ) → 2 ≤ count (arguments_of g) → called n (called_term g) (more_arguments g) f k ≡ goal_with n (added n (argument g 0) (more_arguments g) (argument g 0) f k) f k
called-more n (var v) f k h = absurd (omega (arith, h))
called-more n (int z) f k h = absurd (omega (arith, h))
called-more n (atom a) f k h = absurd (omega (arith, h))
called-more n (comp s nil) f k h = absurd (omega (arith, h))
called-more n (comp s (cons t nil)) f k h = absurd (omega (arith, h))
called-more n (comp s (cons t (cons u us))) f k h = refl
