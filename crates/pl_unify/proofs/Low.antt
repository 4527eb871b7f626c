-- A number that is not given yet occurs in no tree of a store.
use Rattle.std.proofs.Common.{◌≡◌, ◌≢◌, ℕ, zero, suc, ◌+◌, ◌<◌, ◌≤◌, List, [], ◌∷◌, ◌++◌, take, drop, length, get_or, refl, ap, ◌∙◌, subst, Bool, true, false, nat_eq, arith, ◌||◌, if◌then◌else◌}
use Rattle.std.proofs.lemmas.List.{length_push}
use Rattle.pl_terms.specs.Trees.{Tree, Trees, var, int, atom, comp, nil, cons}
use Rattle.unifier_model.specs.Substitution.{replace, replace_all, occurs, occurs_any, apply}
use Rattle.pl_unify.specs.Prefix.{trees}
use Rattle.pl_unify.specs.declared.word.Word.{Word}
use Rattle.pl_unify.specs.declared.word.Word.TheVariants.{Var, Int, Name, Comp}
use Rattle.pl_unify.specs.Words.{word_tree, bases, bound_onto, Link, no_link, no_word, IsFree, WordIn}
use Rattle.pl_unify.specs.State.{State, IsStore, base, bound, tree_of_word}
use Rattle.unifier_model.proofs.Replaced.{or_false_left, or_false_right}

abbrev pub Absent : ℕ → List (Tree ℕ) → Type 0
Absent n [] = Unit {0}
Absent n (t ∷ ts) = (occurs n t ≡ false) × Absent n ts

abbrev NotIn : ℕ → List (ℕ × Tree ℕ) → Type 0
NotIn n [] = Unit {0}
NotIn n (b ∷ bs) = (occurs n b.1 ≡ false) × NotIn n bs

Absent-append : (n : ℕ) (xs ys : List (Tree ℕ)) → Absent n xs → Absent n ys → Absent n (xs ++ ys)
Absent-append n [] ys h g = g
Absent-append n (x ∷ xs) ys h g = (h.0, Absent-append n xs ys h.1 g)

NotIn-append : (n : ℕ) (xs ys : List (ℕ × Tree ℕ)) → NotIn n xs → NotIn n ys → NotIn n (xs ++ ys)
NotIn-append n [] ys h g = g
NotIn-append n (x ∷ xs) ys h g = (h.0, NotIn-append n xs ys h.1 g)

Absent-take : (n k : ℕ) (ts : List (Tree ℕ)) → Absent n ts → Absent n (take k ts)
Absent-take n zero ts h = tt
Absent-take n (suc k) [] h = tt
Absent-take n (suc k) (t ∷ ts) h = (h.0, Absent-take n k ts h.1)

Absent-drop : (n k : ℕ) (ts : List (Tree ℕ)) → Absent n ts → Absent n (drop k ts)
Absent-drop n zero ts h = h
Absent-drop n (suc k) [] h = tt
Absent-drop n (suc k) (t ∷ ts) h = Absent-drop n k ts h.1

or_false : (a b : Bool) → a ≡ false → b ≡ false → (a || b) ≡ false
or_false a b h g = rw (h, g)

pub occurs_any-trees : (n : ℕ) (ts : List (Tree ℕ)) → Absent n ts → occurs_any n (trees ts) ≡ false
occurs_any-trees n [] h = refl
occurs_any-trees n (t ∷ ts) h = or_false (occurs n t) (occurs_any n (trees ts)) h.0 (occurs_any-trees n ts h.1)

not_var : (n m : ℕ) → m < n → nat_eq n m ≡ false
not_var n m h = search arith

absent-word : (n next c : ℕ) (b : List (Tree ℕ)) (w : Word) → next ≤ n → Absent n b → WordIn c next w → occurs n (word_tree b w) ≡ false
absent-word n next c b (Var m) up a h = not_var n m (omega arith)
absent-word n next c b (Int m) up a h = refl
absent-word n next c b (Name m) up a h = refl
absent-word n next c b (Comp k f first) up a h = occurs_any-trees n (take k (drop first b)) (Absent-take n k (drop first b) (Absent-drop n first b a))

absent-bases : (n next : ℕ) (b : List (Tree ℕ)) (ws : List Word) → next ≤ n → Absent n b → ((p : ℕ) → p < length ws → WordIn (length b + p) next (get_or ws p no_word)) → Absent n (bases b ws)
absent-bases n next b [] up a h = a
absent-bases n next b (w ∷ ws) up a h =
    absent-bases n next (b ++ word_tree b w ∷ []) ws up
    (Absent-append n b (word_tree b w ∷ []) a (absent-word n next (length b + 0) b w up a (h 0 (omega arith)), tt))
    (λ p l. subst (λ k. WordIn k next (get_or ws p no_word)) (omega (arith, length_push b (word_tree b w))) (h (suc p) (omega arith)))

-- a replacement by a tree without the number brings it nowhere
mutual
  absent-replace : (n m : ℕ) (r t : Tree ℕ) → occurs n r ≡ false → occurs n t ≡ false → occurs n (replace m r t) ≡ false
  absent-replace n m r (var k) a h = go (nat_eq m k)
    where
      go : (b : Bool) → occurs n (if b then r else var k) ≡ false
      go true = a
      go false = h
  absent-replace n m r (int k) a h = refl
  absent-replace n m r (atom k) a h = refl
  absent-replace n m r (comp f ts) a h = absent-replace_all n m r ts a h

  absent-replace_all : (n m : ℕ) (r : Tree ℕ) (ts : Trees ℕ) → occurs n r ≡ false → occurs_any n ts ≡ false → occurs_any n (replace_all m r ts) ≡ false
  absent-replace_all n m r nil a h = refl
  absent-replace_all n m r (cons t ts) a h =
      or_false (occurs n (replace m r t)) (occurs_any n (replace_all m r ts)) (absent-replace n m r t a (or_false_left (occurs n t) (occurs_any n ts) h)) (absent-replace_all n m r ts a (or_false_right (occurs n t) (occurs_any n ts) h))

absent-apply : (n : ℕ) (bs : List (ℕ × Tree ℕ)) (t : Tree ℕ) → NotIn n bs → occurs n t ≡ false → occurs n (apply bs t) ≡ false
absent-apply n [] t a h = h
absent-apply n (b ∷ bs) t a h = absent-apply n bs (replace b.0 b.1 t) a.1 (absent-replace n b.0 b.1 t a.0 h)

absent-bound : (n next c : ℕ) (b : List (Tree ℕ)) (done : List (ℕ × Tree ℕ)) (ls : List Link) → next ≤ n → Absent n b → NotIn n done
    → ((i : ℕ) → i < length ls → WordIn c next (get_or ls i no_link).word) → NotIn n (bound_onto b done ls)
absent-bound n next c b done [] up a d h = d
absent-bound n next c b done (l ∷ ls) up a d h =
    let here : occurs n (apply done (word_tree b l.word)) ≡ false = absent-apply n done (word_tree b l.word) d (absent-word n next c b l.word up a (h 0 (omega arith))) in
    absent-bound n next c b (done ++ (l.var, apply done (word_tree b l.word)) ∷ []) ls up a (NotIn-append n done ((l.var, apply done (word_tree b l.word)) ∷ []) d (here, tt)) (λ i m. h (suc i) (omega arith))

pub absent-new : (s : State) (w : Word) (n : ℕ) → IsStore s → s.next ≤ n → WordIn (length s.cells) s.next w → occurs n (tree_of_word s w) ≡ false
absent-new s w n st up h =
    let low : Absent n (base s) = absent-bases n s.next [] s.cells up tt (λ p l. subst (λ k. WordIn k s.next (get_or s.cells p no_word)) (omega arith) (st.cells_in p l)) in
    let bs : NotIn n (bound s) = absent-bound n s.next (length s.cells) (base s) [] s.links up low tt (λ i l. (st.links_in i l).word) in
    absent-apply n (bound s) (word_tree (base s) w) bs (absent-word n s.next (length s.cells) (base s) w up low h)

free-index : (n : ℕ) (ls : List Link) → ((i : ℕ) → i < length ls → (get_or ls i no_link).var ≢ n) → IsFree n ls
free-index n [] h = refl
free-index n (l ∷ ls) h =
    let e : nat_eq l.var n ≡ false = let ne : l.var ≢ n = h 0 (omega arith) in search arith in
    let rest : IsFree n ls = free-index n ls (λ i m. h (suc i) (omega arith)) in
    rw e (ap (λ k. k + 1) rest ∙ omega arith)

pub free-new : (s : State) (n : ℕ) → IsStore s → s.next ≤ n → IsFree n s.links
free-new s n st up = free-index n s.links (λ i l e. absurd (omega (arith, (st.links_in i l).number)))
