-- The tree of a word that is followed to its end.
use Rattle.std.proofs.Common.{◌≡◌, ℕ, zero, suc, ◌+◌, ◌<◌, ◌≤◌, List, [], ◌∷◌, ◌++◌, take, drop, length, get_or, refl, ap, ◌∙◌, sym, arith, append_assoc, map}
use Rattle.std.proofs.lemmas.List.{take-append-drop, length-take-le, drop_more, get_or_at, take-map, drop-map, length-map, length-drop, get_or-take, get_or-drop, get_or-map, get_or_read}
use Rattle.pl_terms.specs.Trees.{Tree, var, comp, cons, count}
use Rattle.pl_unify.specs.Prefix.{trees}
use Rattle.unifier_model.specs.Substitution.{apply, apply_all}
use Rattle.pl_unify.specs.declared.word.Word.{Word}
use Rattle.pl_unify.specs.declared.word.Word.TheVariants.{Var, Int, Name, Comp}
use Rattle.pl_unify.specs.declared.word.View.{View}
use Rattle.pl_unify.specs.declared.word.View.TheVariants as V
use Rattle.pl_unify.specs.Words.{word_tree, bases, no_word, IsFree, WordIn}
use Rattle.pl_unify.specs.State.{State, IsStore, base, bound, tree_of_word, tree_at, places, shape}
use Rattle.pl_unify.specs.Shape.{root, nth_tree, argument}
use Rattle.pl_unify.proofs.Grown.{bases-append, bases-begins, length-bases_nil, word_tree-append}
use Rattle.unifier_model.proofs.Replaced.{apply-int, apply-atom, apply-comp, apply_all-none, apply_all-tree}
use Rattle.pl_unify.proofs.Linked.{apply-free}
use Rattle.pl_unify.proofs.Adds.{WordIn-more}

-- the tree of a place is that of its word
pub get_or-bases : (cells : List Word) (p next : ℕ) → p < length cells → WordIn p next (get_or cells p no_word)
    → get_or (bases [] cells) p (var 0) ≡ word_tree (bases [] cells) (get_or cells p no_word)
get_or-bases cells p next h within =
    let w : Word = get_or cells p no_word in
    let rest : List Word = drop (p + 1) cells in
    let pre : List (Tree ℕ) = bases [] (take p cells) in
    let split : cells ≡ take p cells ++ w ∷ rest = sym (take-append-drop p cells) ∙ ap (λ x. take p cells ++ x) (drop_more cells p no_word h) in
    let more = bases-begins (pre ++ word_tree pre w ∷ []) rest in
    let e : bases [] cells ≡ pre ++ word_tree pre w ∷ more.0 = ap (bases []) split ∙ (bases-append [] (take p cells) (w ∷ rest) ∙ (more.1 ∙ append_assoc pre (word_tree pre w ∷ []) more.0)) in
    let size : length pre ≡ p = length-bases_nil (take p cells) ∙ length-take-le p cells (omega arith) in
    let inside_pre : WordIn (length pre) next w = rw size within in
    ap (λ b. get_or b p (var 0)) e ∙ (get_or_at pre (word_tree pre w) more.0 (var 0) p size
    ∙ (sym (word_tree-append pre (word_tree pre w ∷ more.0) w next inside_pre) ∙ ap (λ b. word_tree b w) (sym e)))

pub tree_at-word : (s : State) (p : ℕ) → IsStore s → p < length s.cells → tree_at s (record { 0 = p }) ≡ tree_of_word s (get_or s.cells p no_word)
tree_at-word s p st h = ap (apply (bound s)) (get_or-bases s.cells p s.next h (st.cells_in p h))

pub apply_all-trees : (bs : List (ℕ × Tree ℕ)) (ts : List (Tree ℕ)) → apply_all bs (trees ts) ≡ trees (map (apply bs) ts)
apply_all-trees bs [] = apply_all-none bs
apply_all-trees bs (t ∷ ts) = apply_all-tree bs t (trees ts) ∙ ap (cons (apply bs t)) (apply_all-trees bs ts)

pub tree_of_word-shape : (s : State) (w : Word) → ((n : ℕ) → w ≡ Var n → IsFree n s.links) → tree_of_word s w ≡ shape s w
tree_of_word-shape s (Var n) free = apply-free (base s) [] s.links n refl (free n refl)
tree_of_word-shape s (Int z) free = apply-int (bound s) z
tree_of_word-shape s (Name a) free = apply-atom (bound s) a.0
tree_of_word-shape s (Comp k f first) free =
    apply-comp (bound s) f.0 (trees (take k (drop first (base s))))
    ∙ ap (comp f.0) (apply_all-trees (bound s) (take k (drop first (base s)))
    ∙ ap trees (sym (take-map (apply (bound s)) k (drop first (base s))) ∙ ap (take k) (sym (drop-map (apply (bound s)) first (base s)))))

pub count-trees : (ts : List (Tree ℕ)) → count (trees ts) ≡ length ts
count-trees [] = refl
count-trees (t ∷ ts) = ap suc (count-trees ts)

pub nth_tree-trees : (ts : List (Tree ℕ)) (k : ℕ) → nth_tree (trees ts) k ≡ get_or ts k (var 0)
nth_tree-trees [] k = refl
nth_tree-trees (t ∷ ts) zero = refl
nth_tree-trees (t ∷ ts) (suc k) = nth_tree-trees ts k

pub length-places : (s : State) → length (places s) ≡ length s.cells
length-places s = length-map (base s) (apply (bound s)) ∙ length-bases_nil s.cells

-- how many arguments a compound's word has
pub count-args : (s : State) (k first : ℕ) → first + k ≤ length s.cells → count (trees (take k (drop first (places s)))) ≡ k
count-args s k first h =
    let low : k ≤ length (drop first (places s)) = omega (arith, length-drop first (places s), length-places s) in
    count-trees (take k (drop first (places s))) ∙ length-take-le k (drop first (places s)) low

-- the view of a word
abbrev pub view_word : Word → View
view_word (Var n) = V.Var n
view_word (Int z) = V.Int z
view_word (Name a) = V.Name a
view_word (Comp k f first) = V.Comp f k

pub root-shape : (s : State) (w : Word) → WordIn (length s.cells) s.next w → root (shape s w) ≡ view_word w
root-shape s (Var n) h = refl
root-shape s (Int z) h = refl
root-shape s (Name a) h = refl
root-shape s (Comp k f first) h = ap (V.Comp f) (count-args s k first h.0)

-- the argument k of a compound stands k places after the first
pub tree_at-argument : (s : State) (n first i : ℕ) (f : _) → first + n ≤ length s.cells → i < n
    → tree_at s (record { 0 = first + i }) ≡ argument (shape s (Comp n f first)) i
tree_at-argument s n first i f h l =
    let low : first + i < length (base s) = omega (arith, length-bases_nil s.cells) in
    sym (get_or-map (apply (bound s)) (base s) (first + i) (var 0) (var 0) low)
    ∙ sym (nth_tree-trees (take n (drop first (places s))) i ∙ (get_or-take n (drop first (places s)) i (var 0) l ∙ get_or-drop first (places s) i (var 0)))

-- what `word_at` says, from what `resolve` says of the place's word
pub shape_at : (s : State) (p : ℕ) (w w' : Word) → IsStore s → p < length s.cells → w ≡ get_or s.cells p w → tree_of_word s w' ≡ tree_of_word s w → ((n : ℕ) → w' ≡ Var n → IsFree n s.links)
    → tree_at s (record { 0 = p }) ≡ shape s w'
shape_at s p w w' st h read same free =
    let e : w ≡ get_or s.cells p no_word = get_or_read s.cells p w h read no_word in
    tree_at-word s p st h ∙ (ap (tree_of_word s) (sym e) ∙ (sym same ∙ tree_of_word-shape s w' free))

pub word_at-within : (s : State) (p : ℕ) (w : Word) → IsStore s → p < length s.cells → w ≡ get_or s.cells p w → WordIn (length s.cells) s.next w
word_at-within s p w st h read =
    let e : w ≡ get_or s.cells p no_word = get_or_read s.cells p w h read no_word in
    rw e (WordIn-more p s.next (length s.cells) s.next (get_or s.cells p no_word) (omega arith) (omega arith) (st.cells_in p h))
