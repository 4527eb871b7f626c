-- Steps of a walk over places that are still to be looked at.
use Rattle.std.proofs.Common.{◌≡◌, ℕ, zero, suc, ◌+◌, ◌-◌, ◌<◌, ◌≤◌, List, [], ◌∷◌, ◌++◌, take, drop, length, get_or, refl, ap, ◌∙◌, sym, subst, Bool, true, false, ◌||◌, arith, append_assoc, map, reverse}
use Rattle.std.proofs.lemmas.List.{reverse-append, drop_more, get_or-map, map-append, append-nil}
use Rattle.std.proofs.lemmas.Bool.{eq-eqb, ne_eqb}
use Rattle.pl_atoms.specs.declared.names.NameId.{NameId}
use Rattle.pl_terms.specs.declared.cell.Cell.TheVariants.{Comp}
use Rattle.pl_unify.specs.declared.word.Word.TheVariants as W
use Rattle.pl_terms.specs.Trees.{Tree, var, comp, count}
use Rattle.unifier_model.specs.Substitution.{sizes, occurs_any, occurs, apply}
use Rattle.pl_unify.specs.Prefix.{trees}
use Rattle.pl_terms.specs.Cells.{cells, all_cells}
use Rattle.pl_unify.specs.declared.word.Word.{Word}
use Rattle.pl_unify.specs.State.{State, tree_at, places, base, bound, shape}
use Rattle.pl_unify.specs.Stack.{span, Below, stack}
use Rattle.pl_unify.specs.Notes.{block}
use Rattle.pl_unify.proofs.Grown.{length-bases_nil}
use Rattle.pl_unify.proofs.Shapes.{length-places, count-args}

pub reverse-push : (xs : List ℕ) (x : ℕ) → reverse (xs ++ x ∷ []) ≡ x ∷ reverse xs
reverse-push xs x = reverse-append xs (x ∷ [])

pub Below-append : (n : ℕ) (xs ys : List ℕ) → Below n xs → Below n ys → Below n (xs ++ ys)
Below-append n [] ys a b = b
Below-append n (x ∷ xs) ys a b = (a.0, Below-append n xs ys a.1 b)

pub Below-span : (n first k : ℕ) → first + k ≤ n → Below n (span first k)
Below-span n first zero h = tt
Below-span n first (suc k) h = (omega arith, Below-span n (first + 1) k (omega arith))

pub tree_at-places : (s : State) (p : ℕ) → p < length s.cells → tree_at s (record { 0 = p }) ≡ get_or (places s) p (var 0)
tree_at-places s p h =
    let low : p < length (base s) = omega (arith, length-bases_nil s.cells) in
    sym (get_or-map (apply (bound s)) (base s) p (var 0) (var 0) low)

pub map-span : (s : State) (first k : ℕ) → first + k ≤ length s.cells → map (λ p. tree_at s (record { 0 = p })) (span first k) ≡ take k (drop first (places s))
map-span s first zero h = refl
map-span s first (suc k) h =
    let low : first < length (places s) = omega (arith, length-places s) in
    let head : tree_at s (record { 0 = first }) ≡ get_or (places s) first (var 0) = tree_at-places s first (omega arith) in
    let rest = map-span s (first + 1) k (omega arith) in
    ap (λ t. t ∷ map (λ p. tree_at s (record { 0 = p })) (span (first + 1) k)) head
    ∙ (ap (λ ts. get_or (places s) first (var 0) ∷ ts) rest ∙ ap (take (suc k)) (sym (drop_more (places s) first (var 0) low)))

-- the next place comes off
pub stack-pop : (s : State) (work : List ℕ) (p : ℕ) → stack s (work ++ p ∷ []) ≡ tree_at s (record { 0 = p }) ∷ stack s work
stack-pop s work p = ap (map (λ k. tree_at s (record { 0 = k }))) (reverse-push work p)

-- the arguments of a compound are put on
pub stack-span : (s : State) (old new : List ℕ) (first k : ℕ) → first + k ≤ length s.cells → reverse new ≡ span first k ++ reverse old
    → stack s new ≡ take k (drop first (places s)) ++ stack s old
stack-span s old new first k h e =
    ap (map (λ p. tree_at s (record { 0 = p }))) e
    ∙ (map-append (λ p. tree_at s (record { 0 = p })) (span first k) (reverse old) ∙ ap (λ ts. ts ++ stack s old) (map-span s first k h))

pub flatten_all-append : (xs ys : List (Tree ℕ)) → all_cells (trees (xs ++ ys)) ≡ all_cells (trees xs) ++ all_cells (trees ys)
flatten_all-append [] ys = refl
flatten_all-append (x ∷ xs) ys = ap (λ r. cells x ++ r) (flatten_all-append xs ys) ∙ sym (append_assoc (cells x) (all_cells (trees xs)) (all_cells (trees ys)))

pub sizes-append : (xs ys : List (Tree ℕ)) → sizes (trees (xs ++ ys)) ≡ sizes (trees xs) + sizes (trees ys)
sizes-append [] ys = omega arith
sizes-append (x ∷ xs) ys = omega (arith, sizes-append xs ys)

pub or_assoc : (a b c : Bool) → (a || b) || c ≡ a || (b || c)
or_assoc true b c = refl
or_assoc false b c = refl

pub occurs_any-append : (n : ℕ) (xs ys : List (Tree ℕ)) → occurs_any n (trees (xs ++ ys)) ≡ (occurs_any n (trees xs) || occurs_any n (trees ys))
occurs_any-append n [] ys = refl
occurs_any-append n (x ∷ xs) ys = ap (λ r. occurs n x || r) (occurs_any-append n xs ys) ∙ sym (or_assoc (occurs n x) (occurs_any n (trees xs)) (occurs_any n (trees ys)))

-- the places that a walk adds, one by one
pub span-more : (first count k : ℕ) (rest : List ℕ) → k < count → (first + k) ∷ (span (first + (k + 1)) (count - (k + 1)) ++ rest) ≡ span (first + k) (count - k) ++ rest
span-more first count k rest h =
    let e : count - k ≡ suc (count - (k + 1)) = omega arith in
    let f : first + (k + 1) ≡ (first + k) + 1 = omega arith in
    rw (e, f)

-- a compound is taken off, and its arguments are put on
pub record Opened (s : State) (work new : List ℕ) (k : ℕ) (f : NameId) : Type 0 where
  pub below : Below (length s.cells) (reverse new)
  pub smaller : sizes (trees (stack s new)) < sizes (trees (stack s work))
  pub flat : all_cells (trees (stack s work)) ≡ Comp f k ∷ all_cells (trees (stack s new))
  pub occurring : (n : ℕ) → occurs_any n (trees (stack s work)) ≡ occurs_any n (trees (stack s new))

pub opened : (s : State) (work old new : List ℕ) (p k first : ℕ) (f : NameId) → work ≡ old ++ p ∷ [] → tree_at s (record { 0 = p }) ≡ shape s (W.Comp k f first)
    → first + k ≤ length s.cells → reverse new ≡ span first k ++ reverse old → Below (length s.cells) (reverse work) → Opened s work new k f
opened s work old new p k first f split root h pushed below =
    let args : List (Tree ℕ) = take k (drop first (places s)) in
    let rest : List (Tree ℕ) = stack s old in
    let was : stack s work ≡ comp f.0 (trees args) ∷ rest = ap (stack s) split ∙ (stack-pop s old p ∙ ap (λ t. t ∷ rest) root) in
    let is : stack s new ≡ args ++ rest = stack-span s old new first k h pushed in
    let count_is : count (trees args) ≡ k = count-args s k first h in
    let left : Below (length s.cells) (reverse old) = (subst (Below (length s.cells)) (ap reverse split ∙ reverse-push old p) below).1 in
    record {
      below = rw pushed (Below-append (length s.cells) (span first k) (reverse old) (Below-span (length s.cells) first k h) left);
      smaller = omega (arith, ap (λ ts. sizes (trees ts)) was, ap (λ ts. sizes (trees ts)) is, sizes-append args rest);
      flat = ap (λ ts. all_cells (trees ts)) was ∙ (ap (λ n. Comp f n ∷ (all_cells (trees args) ++ all_cells (trees rest))) count_is
          ∙ ap (λ cs. Comp f k ∷ cs) (sym (ap (λ ts. all_cells (trees ts)) is ∙ flatten_all-append args rest)));
      occurring = λ n. ap (λ ts. occurs_any n (trees ts)) was ∙ sym (ap (λ ts. occurs_any n (trees ts)) is ∙ occurs_any-append n args rest);
    }

-- the arguments of a compound are the first places of a walk
pub record Started (s : State) (new : List ℕ) (k first : ℕ) : Type 0 where
  pub below : Below (length s.cells) (reverse new)
  pub occurring : (n : ℕ) → occurs_any n (trees (stack s new)) ≡ occurs_any n (trees (take k (drop first (places s))))

pub started : (s : State) (old new : List ℕ) (k first : ℕ) → old ≡ [] → first + k ≤ length s.cells → reverse new ≡ span first k ++ reverse old → Started s new k first
started s old new k first none h pushed =
    let args : List (Tree ℕ) = take k (drop first (places s)) in
    let is : stack s new ≡ args ++ stack s old = stack-span s old new first k h pushed in
    let all : stack s new ≡ args = is ∙ (ap (λ w. args ++ stack s w) none ∙ append-nil args) in
    record {
      below = rw (pushed, none) (Below-append (length s.cells) (span first k) [] (Below-span (length s.cells) first k h) tt);
      occurring = λ n. ap (λ ts. occurs_any n (trees ts)) all;
    }

pub occurs_plain : (s : State) (n : ℕ) (w : Word) → ((m : ℕ) → w ≡ W.Var m → ⊥) → ((k : ℕ) (f : NameId) (first : ℕ) → w ≡ W.Comp k f first → ⊥) → occurs n (shape s w) ≡ false
occurs_plain s n (W.Var m) v c = absurd (v m refl)
occurs_plain s n (W.Int z) v c = refl
occurs_plain s n (W.Name a) v c = refl
occurs_plain s n (W.Comp k f first) v c = absurd (c k f first refl)

-- a block's first place is looked at
pub block-next : (s : State) (n first count k : ℕ) → k < count → first + count ≤ length s.cells
    → occurs_any n (block s (first + k) (count - k)) ≡ (occurs n (tree_at s (record { 0 = first + k })) || occurs_any n (block s (first + (k + 1)) (count - (k + 1))))
block-next s n first count k h l =
    let e : count - k ≡ suc (count - (k + 1)) = omega arith in
    let f : first + (k + 1) ≡ (first + k) + 1 = omega arith in
    let low : first + k < length (places s) = omega (arith, length-places s) in
    let here : tree_at s (record { 0 = first + k }) ≡ get_or (places s) (first + k) (var 0) = tree_at-places s (first + k) (omega arith) in
    ap (λ m. occurs_any n (block s (first + k) m)) e
    ∙ (ap (λ ts. occurs_any n (trees (take (suc (count - (k + 1))) ts))) (drop_more (places s) (first + k) (var 0) low)
    ∙ (ap (λ t. occurs n t || occurs_any n (trees (take (count - (k + 1)) (drop ((first + k) + 1) (places s))))) (sym here)
    ∙ ap (λ p. occurs n (tree_at s (record { 0 = first + k })) || occurs_any n (block s p (count - (k + 1)))) (sym f)))

-- a variable at the place is the one that is looked for
pub block-found : (s : State) (n m first count k : ℕ) (w : Word) → k < count → first + count ≤ length s.cells → tree_at s (record { 0 = first + k }) ≡ shape s w → w ≡ W.Var m → n ≡ m
    → true ≡ occurs_any n (block s (first + k) (count - k))
block-found s n m first count k w h l root e same =
    let here : occurs n (tree_at s (record { 0 = first + k })) ≡ true = ap (occurs n) (root ∙ ap (shape s) e) ∙ eq-eqb n m same in
    sym (block-next s n first count k h l ∙ ap (λ b. b || occurs_any n (block s (first + (k + 1)) (count - (k + 1)))) here)

-- what stands at the place is no compound and not the variable
pub block-passed : (s : State) (n first count k : ℕ) (w : Word) (all : Bool) → k < count → first + count ≤ length s.cells → tree_at s (record { 0 = first + k }) ≡ shape s w
    → ((m : ℕ) → w ≡ W.Var m → n ≡ m → ⊥) → ((j : ℕ) (f : NameId) (place : ℕ) → w ≡ W.Comp j f place → ⊥)
    → occurs_any n (block s (first + k) (count - k)) ≡ all → occurs_any n (block s (first + (k + 1)) (count - (k + 1))) ≡ all
block-passed s n first count k w all h l root other plain is =
    let here : occurs n (tree_at s (record { 0 = first + k })) ≡ false = ap (occurs n) root ∙ go w other plain in
    sym (sym is ∙ (block-next s n first count k h l ∙ ap (λ b. b || occurs_any n (block s (first + (k + 1)) (count - (k + 1)))) here))
  where
    go : (x : Word) → ((m : ℕ) → x ≡ W.Var m → n ≡ m → ⊥) → ((j : ℕ) (f : NameId) (place : ℕ) → x ≡ W.Comp j f place → ⊥) → occurs n (shape s x) ≡ false
    go (W.Var m) o p = ne_eqb n m (o m refl)
    go (W.Int z) o p = refl
    go (W.Name a) o p = refl
    go (W.Comp j f place) o p = absurd (p j f place refl)
