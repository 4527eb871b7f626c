-- Steps of `next_binding`.
use Rattle.std.proofs.Common.{◌≡◌, ◌≢◌, ℕ, zero, suc, ◌+◌, ◌-◌, ◌<◌, ◌≤◌, List, [], ◌∷◌, ◌++◌, take, drop, length, get_or, refl, ap, ◌∙◌, sym, subst, true, false, arith, map, reverse, Option, None, ℤ}
use Rattle.std.proofs.lemmas.List.{reverse-append, drop_more, map-append}
use Rattle.std.proofs.lemmas.Bool.{eqb-true}
use Rattle.pl_atoms.specs.declared.names.NameId.{NameId}
use Rattle.pl_terms.specs.Trees.{Tree, Trees, var, comp, nil, cons, count}
use Rattle.unifier_model.specs.Substitution.{size, sizes, occurs}
use Rattle.pl_unify.specs.Prefix.{trees}
use Rattle.pl_unify.specs.declared.word.Word.{Word}
use Rattle.pl_unify.specs.declared.word.Word.TheVariants.{Var, Int, Name, Comp}
use Rattle.pl_unify.specs.Words.{IsFree, WordIn}
use Rattle.pl_unify.specs.State.{State, tree_at, tree_of_word, places, shape}
use Rattle.unifier_model.specs.Unifier.{Solved, replaced, binding, pairs, IsClash, IsOther}
use Rattle.unifier_model.specs.Unifier.Solved.{same, higher_left, higher_right, left, right, left_inside, right_inside, parts, clash}
use Rattle.unifier_model.specs.Unifier.IsClash.{ints, atoms, names, counts, int_atom, atom_int, int_comp, comp_int, atom_comp, comp_atom}
use Rattle.pl_unify.specs.Steps.{pair_span, PairsBelow, equations, BindStep, WordsClash}
use Rattle.pl_unify.proofs.Shapes.{length-places, count-args, tree_of_word-shape}
use Rattle.unifier_model.proofs.MguProofs.{size_pos}
use Rattle.pl_unify.proofs.Walk.{tree_at-places}

pub reverse-push_pair : (xs : List (ℕ × ℕ)) (x : ℕ × ℕ) → reverse (xs ++ x ∷ []) ≡ x ∷ reverse xs
reverse-push_pair xs x = reverse-append xs (x ∷ [])

pub pair_span-more : (first second count k : ℕ) (rest : List (ℕ × ℕ)) → k < count → (first + k, second + k) ∷ (pair_span (first + (k + 1)) (second + (k + 1)) (count - (k + 1)) ++ rest) ≡ pair_span (first + k) (second + k) (count - k) ++ rest
pair_span-more first second count k rest h =
    let e : count - k ≡ suc (count - (k + 1)) = omega arith in
    let f : first + (k + 1) ≡ (first + k) + 1 = omega arith in
    let g : second + (k + 1) ≡ (second + k) + 1 = omega arith in
    rw (e, f, g)

pub PairsBelow-append : (n : ℕ) (xs ys : List (ℕ × ℕ)) → PairsBelow n xs → PairsBelow n ys → PairsBelow n (xs ++ ys)
PairsBelow-append n [] ys a b = b
PairsBelow-append n (x ∷ xs) ys a b = (a.0, a.1, PairsBelow-append n xs ys a.2 b)

pub PairsBelow-span : (n first second k : ℕ) → first + k ≤ n → second + k ≤ n → PairsBelow n (pair_span first second k)
PairsBelow-span n first second zero h g = tt
PairsBelow-span n first second (suc k) h g = (omega arith, omega arith, PairsBelow-span n (first + 1) (second + 1) k (omega arith) (omega arith))

abbrev pub pair_trees : State → (ℕ × ℕ) → (Tree ℕ × Tree ℕ)
pair_trees s p = (tree_at s (record { 0 = p.0 }), tree_at s (record { 0 = p.1 }))

pub equations-pop : (s : State) (work : List (ℕ × ℕ)) (p q : ℕ) → equations s (work ++ (p, q) ∷ []) ≡ (tree_at s (record { 0 = p }), tree_at s (record { 0 = q })) ∷ equations s work
equations-pop s work p q = ap (map (pair_trees s)) (reverse-push_pair work (p, q))

-- the equations of arguments are those of their places
pub pairs-span : (s : State) (first second k : ℕ) (es : List (Tree ℕ × Tree ℕ)) → first + k ≤ length s.cells → second + k ≤ length s.cells
    → map (pair_trees s) (pair_span first second k) ++ es ≡ pairs (trees (take k (drop first (places s)))) (trees (take k (drop second (places s)))) es
pairs-span s first second zero es h g = refl
pairs-span s first second (suc k) es h g =
    let low : first < length (places s) = omega (arith, length-places s) in
    let low2 : second < length (places s) = omega (arith, length-places s) in
    let one : tree_at s (record { 0 = first }) ≡ get_or (places s) first (var 0) = tree_at-places s first (omega arith) in
    let two : tree_at s (record { 0 = second }) ≡ get_or (places s) second (var 0) = tree_at-places s second (omega arith) in
    let rest : map (pair_trees s) (pair_span (first + 1) (second + 1) k) ++ es ≡ pairs (trees (take k (drop (first + 1) (places s)))) (trees (take k (drop (second + 1) (places s)))) es =
    pairs-span s (first + 1) (second + 1) k es (omega arith) (omega arith) in
    let head : (tree_at s (record { 0 = first }), tree_at s (record { 0 = second })) ≡ (get_or (places s) first (var 0), get_or (places s) second (var 0)) = ap (λ t. (t, tree_at s (record { 0 = second }))) one ∙ ap (λ t. (get_or (places s) first (var 0), t)) two in
    ap (λ e. e ∷ (map (pair_trees s) (pair_span (first + 1) (second + 1) k) ++ es)) head
    ∙ (ap (λ r. (get_or (places s) first (var 0), get_or (places s) second (var 0)) ∷ r) rest
    ∙ sym (ap (λ xs. pairs (trees (take (suc k) xs)) (trees (take (suc k) (drop second (places s)))) es) (drop_more (places s) first (var 0) low)
    ∙ ap (λ xs. pairs (cons (get_or (places s) first (var 0)) (trees (take k (drop (first + 1) (places s))))) (trees (take (suc k) xs)) es) (drop_more (places s) second (var 0) low2)))

-- how large the left sides are
abbrev pub weight : List (Tree ℕ × Tree ℕ) → ℕ
weight [] = 0
weight (e ∷ es) = size e.0 + weight es

pub weight-pairs : (ts us : Trees ℕ) (es : List (Tree ℕ × Tree ℕ)) → weight (pairs ts us es) ≤ sizes ts + weight es
weight-pairs nil us es = omega arith
weight-pairs (cons t ts) nil es = omega arith
weight-pairs (cons t ts) (cons u us) es = omega (arith, weight-pairs ts us es)

-- an equation that was taken off, and the words of its sides
pub record Looked (s : State) (start work rest : List (ℕ × ℕ)) (p q : ℕ) (l r : Word) : Type 0 where
  pub split : work ≡ rest ++ (p, q) ∷ []
  pub below : PairsBelow (length s.cells) (reverse work)
  pub reduces : (x : Option (List (ℕ × Tree ℕ))) → Solved (equations s work) x → Solved (equations s start) x
  pub left_shape : tree_at s (record { 0 = p }) ≡ shape s l
  pub right_shape : tree_at s (record { 0 = q }) ≡ shape s r
  pub left_within : WordIn (length s.cells) s.next l
  pub right_within : WordIn (length s.cells) s.next r
  pub left_free : (n : ℕ) → l ≡ Var n → IsFree n s.links
  pub right_free : (n : ℕ) → r ≡ Var n → IsFree n s.links

module _ (s : State) (start work rest : List (ℕ × ℕ)) (p q : ℕ) (l r : Word) (k : Looked s start work rest p q l r) where
  pub looked-equations : equations s work ≡ (shape s l, shape s r) ∷ equations s rest
  looked-equations =
      ap (equations s) k.split ∙ (equations-pop s rest p q
      ∙ (ap (λ t. (t, tree_at s (record { 0 = q })) ∷ equations s rest) k.left_shape ∙ ap (λ t. (shape s l, t) ∷ equations s rest) k.right_shape))

  pub looked-below : PairsBelow (length s.cells) (reverse rest)
  looked-below = (subst (PairsBelow (length s.cells)) (ap reverse k.split ∙ reverse-push_pair rest (p, q)) k.below).2

  pub looked-start : (x : Option (List (ℕ × Tree ℕ))) → Solved ((shape s l, shape s r) ∷ equations s rest) x → Solved (equations s start) x
  looked-start x h = k.reduces x (subst (λ es. Solved es x) (sym looked-equations) h)

  pub looked-smaller : weight (equations s rest) < weight (equations s work)
  looked-smaller = omega (arith, ap weight looked-equations, size_pos (shape s l))

  pub looked-same : l ≡ r → (x : Option (List (ℕ × Tree ℕ))) → Solved (equations s rest) x → Solved (equations s start) x
  looked-same e x h = looked-start x (subst (λ w. Solved ((shape s l, shape s w) ∷ equations s rest) x) e (same h))

  pub looked-clash : IsClash (shape s l) (shape s r) → Solved (equations s start) None
  looked-clash c = looked-start None (clash c)

  -- the left side is a variable, the right side none
  pub looked-left : (n : ℕ) → l ≡ Var n → IsOther (shape s r) → BindStep s start rest n r
  looked-left n e other =
      let tree_is : tree_of_word s r ≡ shape s r = tree_of_word-shape s r k.right_free in
      let at : (x : Option (List (ℕ × Tree ℕ))) → Solved ((var n, shape s r) ∷ equations s rest) x → Solved (equations s start) x =
      λ x h. looked-start x (subst (λ w. Solved ((shape s w, shape s r) ∷ equations s rest) x) (sym e) h) in
      record {
        number = subst (WordIn (length s.cells) s.next) e k.left_within;
        free = k.left_free n e;
        within = k.right_within;
        ahead = k.right_free;
        below = looked-below;
        inside = λ o. at None (left_inside other (subst (λ t. occurs n t ≡ true) tree_is o));
        binds = λ x o h. rw tree_is (at (binding n (shape s r) x) (left other (subst (λ t. occurs n t ≡ false) tree_is o) (subst (λ t. Solved (replaced n t (equations s rest)) x) tree_is h)));
      }

  pub looked-right : (n : ℕ) → r ≡ Var n → IsOther (shape s l) → BindStep s start rest n l
  looked-right n e other =
      let tree_is : tree_of_word s l ≡ shape s l = tree_of_word-shape s l k.left_free in
      let at : (x : Option (List (ℕ × Tree ℕ))) → Solved ((shape s l, var n) ∷ equations s rest) x → Solved (equations s start) x =
      λ x h. looked-start x (subst (λ w. Solved ((shape s l, shape s w) ∷ equations s rest) x) (sym e) h) in
      record {
        number = subst (WordIn (length s.cells) s.next) e k.right_within;
        free = k.right_free n e;
        within = k.left_within;
        ahead = k.left_free;
        below = looked-below;
        inside = λ o. at None (right_inside other (subst (λ t. occurs n t ≡ true) tree_is o));
        binds = λ x o h. rw tree_is (at (binding n (shape s l) x) (right other (subst (λ t. occurs n t ≡ false) tree_is o) (subst (λ t. Solved (replaced n t (equations s rest)) x) tree_is h)));
      }

  looked-vars : (n m : ℕ) → l ≡ Var n → r ≡ Var m → (x : Option (List (ℕ × Tree ℕ))) → Solved ((var n, var m) ∷ equations s rest) x → Solved (equations s start) x
  looked-vars n m e f x h = looked-start x (subst (λ w. Solved ((shape s w, shape s r) ∷ equations s rest) x) (sym e) (subst (λ w. Solved ((var n, shape s w) ∷ equations s rest) x) (sym f) h))

  apart : (n m : ℕ) → n ≢ m → occurs {N = ℕ} n (var m) ≡ true → ⊥
  apart n m ne o = ne (eqb-true n m o)

  -- two variables, the left one with the higher number
  pub looked-higher_left : (n m : ℕ) → l ≡ Var n → r ≡ Var m → m < n → BindStep s start rest n r
  looked-higher_left n m e f lt =
      let tree_is : tree_of_word s r ≡ var m = tree_of_word-shape s r k.right_free ∙ ap (shape s) f in
      record {
        number = subst (WordIn (length s.cells) s.next) e k.left_within;
        free = k.left_free n e;
        within = k.right_within;
        ahead = k.right_free;
        below = looked-below;
        inside = λ o. absurd (apart n m (omega arith) (subst (λ t. occurs n t ≡ true) tree_is o));
        binds = λ x o h. rw tree_is (looked-vars n m e f (binding n (var m) x) (higher_left lt (subst (λ t. Solved (replaced n t (equations s rest)) x) tree_is h)));
      }

  pub looked-higher_right : (n m : ℕ) → l ≡ Var n → r ≡ Var m → n < m → BindStep s start rest m l
  looked-higher_right n m e f lt =
      let tree_is : tree_of_word s l ≡ var n = tree_of_word-shape s l k.left_free ∙ ap (shape s) e in
      record {
        number = subst (WordIn (length s.cells) s.next) f k.right_within;
        free = k.right_free m f;
        within = k.left_within;
        ahead = k.left_free;
        below = looked-below;
        inside = λ o. absurd (apart m n (omega arith) (subst (λ t. occurs m t ≡ true) tree_is o));
        binds = λ x o h. rw tree_is (looked-vars n m e f (binding m (var n) x) (higher_right lt (subst (λ t. Solved (replaced m t (equations s rest)) x) tree_is h)));
      }

  -- two compounds with one name and arity: their arguments come in their place
  pub record Parted (new : List (ℕ × ℕ)) : Type 0 where
    pub below : PairsBelow (length s.cells) (reverse new)
    pub smaller : weight (equations s new) < weight (equations s work)
    pub reduces : (x : Option (List (ℕ × Tree ℕ))) → Solved (equations s new) x → Solved (equations s start) x

  pub looked-parts : (new : List (ℕ × ℕ)) (n first second : ℕ) (f : NameId) → l ≡ Comp n f first → r ≡ Comp n f second
      → reverse new ≡ pair_span first second n ++ reverse rest → Parted new
  looked-parts new n first second f e g pushed =
      let h : first + n ≤ length s.cells = (subst (WordIn (length s.cells) s.next) e k.left_within).0 in
      let h2 : second + n ≤ length s.cells = (subst (WordIn (length s.cells) s.next) g k.right_within).0 in
      let ts : Trees ℕ = trees (take n (drop first (places s))) in
      let us : Trees ℕ = trees (take n (drop second (places s))) in
      let is : equations s new ≡ pairs ts us (equations s rest) =
      ap (map (pair_trees s)) pushed ∙ (map-append (pair_trees s) (pair_span first second n) (reverse rest) ∙ pairs-span s first second n (equations s rest) h h2) in
      let counts : count ts ≡ count us = count-args s n first h ∙ sym (count-args s n second h2) in
      let was : equations s work ≡ (comp f.0 ts, shape s r) ∷ equations s rest = looked-equations ∙ ap (λ w. (shape s w, shape s r) ∷ equations s rest) e in
      record {
        below = rw pushed (PairsBelow-append (length s.cells) (pair_span first second n) (reverse rest) (PairsBelow-span (length s.cells) first second n h h2) looked-below);
        smaller = omega (arith, ap weight was, ap weight is, weight-pairs ts us (equations s rest));
        reduces = λ x y.
            let z : Solved ((comp f.0 ts, comp f.0 us) ∷ equations s rest) x = parts counts (subst (λ es. Solved es x) is y) in
            looked-start x (subst (λ w. Solved ((shape s w, shape s r) ∷ equations s rest) x) (sym e) (subst (λ w. Solved ((comp f.0 ts, shape s w) ∷ equations s rest) x) (sym g) z));
      }

  -- the left side is a variable, and the right side none or one of a lower number
  pub looked_bind_left : (n : ℕ) → l ≡ Var n → ((m : ℕ) → r ≡ Var m → m < n) → BindStep s start rest n r
  looked_bind_left n e low = go r refl
    where
      go : (w : Word) → r ≡ w → BindStep s start rest n r
      go (Var m) f = looked-higher_left n m e f (low m f)
      go (Int z) f = looked-left n e (rw f tt)
      go (Name a) f = looked-left n e (rw f tt)
      go (Comp i g first) f = looked-left n e (rw f tt)

  pub looked_bind_right : (n : ℕ) → r ≡ Var n → ((m : ℕ) → l ≡ Var m → m < n) → BindStep s start rest n l
  looked_bind_right n e low = go l refl
    where
      go : (w : Word) → l ≡ w → BindStep s start rest n l
      go (Var m) f = looked-higher_right m n f e (low m f)
      go (Int z) f = looked-right n e (rw f tt)
      go (Name a) f = looked-right n e (rw f tt)
      go (Comp i g first) f = looked-right n e (rw f tt)

-- the words that clash with each kind
pub clash_int : (z : ℤ) (r : Word) → ((m : ℕ) → r ≡ Var m → ⊥) → ((y : ℤ) → r ≡ Int y → ⊥) → WordsClash (Int z) r
clash_int z (Var m) v i s h g = absurd (v m refl)
clash_int z (Int y) v i s h g = absurd (i y refl)
clash_int z (Name a) v i s h g = int_atom
clash_int z (Comp k f first) v i s h g = int_comp

pub clash_name : (a : NameId) (r : Word) → ((m : ℕ) → r ≡ Var m → ⊥) → ((b : NameId) → r ≡ Name b → ⊥) → WordsClash (Name a) r
clash_name a (Var m) v i s h g = absurd (v m refl)
clash_name a (Int y) v i s h g = atom_int
clash_name a (Name b) v i s h g = absurd (i b refl)
clash_name a (Comp k f first) v i s h g = atom_comp

pub clash_comp : (k : ℕ) (f : NameId) (first : ℕ) (r : Word) → ((m : ℕ) → r ≡ Var m → ⊥) → ((j : ℕ) (g : NameId) (second : ℕ) → r ≡ Comp j g second → ⊥) → WordsClash (Comp k f first) r
clash_comp k f first (Var m) v i s h g = absurd (v m refl)
clash_comp k f first (Int y) v i s h g = comp_int
clash_comp k f first (Name b) v i s h g = comp_atom
clash_comp k f first (Comp j g second) v i s h g' = absurd (i j g second refl)

pub clash_ints : (x y : ℤ) → x ≢ y → WordsClash (Int x) (Int y)
clash_ints x y ne s h g = ints ne

pub clash_names : (a b : NameId) → a ≢ b → WordsClash (Name a) (Name b)
clash_names a b ne s h g = atoms (λ q. ne (ap (λ n. record { 0 = n }) q))

pub clash_functors : (j : ℕ) (f : NameId) (first k : ℕ) (g : NameId) (second : ℕ) → f ≢ g → WordsClash (Comp j f first) (Comp k g second)
clash_functors j f first k g second ne s h h' = names (λ q. ne (ap (λ n. record { 0 = n }) q))

pub clash_counts : (j : ℕ) (f : NameId) (first k : ℕ) (g : NameId) (second : ℕ) → j ≢ k → WordsClash (Comp j f first) (Comp k g second)
clash_counts j f first k g second ne s h h' = counts (λ e. ne (sym (count-args s j first h.0) ∙ (e ∙ count-args s k second h'.0)))

pub words_clash_at : (l l' r r' : Word) → l ≡ l' → r ≡ r' → WordsClash l' r' → WordsClash l r
words_clash_at l l' r r' e f h = subst (λ w. WordsClash w r) (sym e) (subst (λ w. WordsClash l' w) (sym f) h)
