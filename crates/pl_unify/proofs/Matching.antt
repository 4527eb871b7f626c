-- Steps of `solve_words` and of matching a head.
use Rattle.std.proofs.Common.{◌≡◌, ◌≢◌, ℕ, zero, suc, ◌+◌, ◌<◌, ◌≤◌, List, [], ◌∷◌, ◌++◌, take, drop, length, get_or, refl, ap, ◌∙◌, sym, subst, Bool, true, false, not, arith, map, reverse, Option, Some, None, Result, Ok, Err, IsTrue, ℤ, ◌⊎◌, inl, inr}
use Rattle.std.specs.Prelude.{IfOk, MatchBool}
use Rattle.std.proofs.lemmas.List.{append-nil, append_assoc, drop_more, length-map, length-take-le, length-drop, get_or-map, map-append}
use Rattle.std.proofs.lemmas.Bool.{eqb-true}
use Rattle.pl_atoms.specs.declared.names.NameId.{NameId}
use Rattle.pl_terms.specs.Trees.{Tree, Trees, var, int, atom, comp, cons, count}
use Rattle.unifier_model.specs.Substitution.{raise, raise_all, size, sizes, occurs, apply, apply_all}
use Rattle.pl_unify.specs.Prefix.{trees}
use Rattle.pl_unify.proofs.PrefixLaws.{trees-raise}
use Rattle.pl_unify.specs.declared.word.Word.{Word}
use Rattle.pl_unify.specs.declared.word.Word.TheVariants.{Var, Int, Name, Comp}
use Rattle.pl_unify.specs.declared.code.CodeWord.{CodeWord}
use Rattle.pl_unify.specs.declared.code.CodeWord.TheVariants as K
use Rattle.pl_unify.specs.Words.{word_tree, IsFree, WordIn}
use Rattle.pl_unify.specs.State.{State, IsStore, base, bound, tree_of_word, tree_of_var, tree_at, Extends, Grows, Binds, shape, places}
use Rattle.pl_unify.proofs.StoreLaws.{Extends-trans, Extends-refl}
use Rattle.unifier_model.specs.Unifier.{Solved, pairs, IsClash, IsOther}
use Rattle.unifier_model.specs.Unifier.Solved.{solved, same, higher_left, higher_right, left, right, left_inside, right_inside, parts, clash}
use Rattle.unifier_model.specs.Unifier.IsClash.{names, counts, int_atom, atom_int, int_comp, comp_int, atom_comp, comp_atom}
use Rattle.pl_unify.specs.Steps.{OnlyBinds, pair_span, equations}
use Rattle.pl_unify.specs.Code.{plain, no_code, code_base, code_tree, code_tree_in, IsCode, CodeIn}
use Rattle.pl_unify.specs.declared.store.head.Met.{Met}
use Rattle.pl_unify.specs.declared.store.head.Met.TheVariants as M
use Rattle.pl_unify.specs.Spans.{IsMet}
use Rattle.pl_unify.specs.Match.{SolvedBy, Matched, Matching, Born, applied, after, PairsIn, code_equations, code_equation, code_weight}
use Rattle.unifier_model.proofs.Replaced.{apply-comp}
use Rattle.pl_unify.proofs.Grown.{length-bases_nil}
use Rattle.pl_unify.proofs.Shapes.{tree_of_word-shape, apply_all-trees, count-trees, count-args, length-places}
use Rattle.pl_unify.proofs.Solving.{pairs-span, pair_trees}
use Rattle.unifier_model.proofs.MguProofs.{size_pos}
use Rattle.pl_unify.proofs.Walk.{tree_at-places}
use Rattle.pl_unify.proofs.Low.{absent-new, free-new}
use Rattle.pl_unify.proofs.Linked.{apply-free}
use Rattle.pl_unify.proofs.Moves.{solved_by, place-moves, tree-moves}
use Rattle.pl_unify.proofs.Chain.{then, applied-nil, after-none}
use Rattle.pl_unify.proofs.Building.{code_tree-at, same_span}

-- what a variable is to be bound to: no variable, or one of a lower number
abbrev pub Lower : ℕ → Word → Type 0
Lower n w = (m : ℕ) → w ≡ Var m → m < n

apart : (n m : ℕ) → m < n → occurs {N = ℕ} n (var m) ≡ true → ⊥
apart n m lt o = let e : n ≡ m = eqb-true n m o in absurd (omega arith)

shape_left : (s : State) (n : ℕ) (w : Word) → Lower n w → occurs n (shape s w) ≡ false → Solved ((var n, shape s w) ∷ []) (Some ((n, shape s w) ∷ []))
shape_left s n (Var m) low o = higher_left (low m refl) solved
shape_left s n (Int z) low o = left tt o solved
shape_left s n (Name a) low o = left tt o solved
shape_left s n (Comp k f first) low o = left tt o solved

shape_right : (s : State) (n : ℕ) (w : Word) → Lower n w → occurs n (shape s w) ≡ false → Solved ((shape s w, var n) ∷ []) (Some ((n, shape s w) ∷ []))
shape_right s n (Var m) low o = higher_right (low m refl) solved
shape_right s n (Int z) low o = right tt o solved
shape_right s n (Name a) low o = right tt o solved
shape_right s n (Comp k f first) low o = right tt o solved

shape_in_left : (s : State) (n : ℕ) (w : Word) → Lower n w → occurs n (shape s w) ≡ true → Solved ((var n, shape s w) ∷ []) None
shape_in_left s n (Var m) low o = absurd (apart n m (low m refl) o)
shape_in_left s n (Int z) low o = cc
shape_in_left s n (Name a) low o = cc
shape_in_left s n (Comp k f first) low o = left_inside tt o

shape_in_right : (s : State) (n : ℕ) (w : Word) → Lower n w → occurs n (shape s w) ≡ true → Solved ((shape s w, var n) ∷ []) None
shape_in_right s n (Var m) low o = absurd (apart n m (low m refl) o)
shape_in_right s n (Int z) low o = cc
shape_in_right s n (Name a) low o = cc
shape_in_right s n (Comp k f first) low o = right_inside tt o

-- a word that was followed to its end
pub record Found (s : State) (w end : Word) : Type 0 where
  pub same : tree_of_word s end ≡ tree_of_word s w
  pub within : WordIn (length s.cells) s.next end
  pub free : (n : ℕ) → end ≡ Var n → IsFree n s.links

pub found-shape : (s : State) (w end : Word) → Found s w end → tree_of_word s w ≡ shape s end
found-shape s w end f = sym f.same ∙ tree_of_word-shape s end f.free

abbrev pub Sides : State → Word → Word → List (Tree ℕ × Tree ℕ)
Sides s l r = (tree_of_word s l, tree_of_word s r) ∷ []

abbrev pub Answer : State → State → List (Tree ℕ × Tree ℕ) → Bool → Type 0
Answer old new es ok = MatchBool ok (SolvedBy old new es) (Solved es None)

pub sides-same : (s : State) (l r l' r' : Word) → Found s l l' → Found s r r' → l' ≡ r' → SolvedBy s s (Sides s l r)
sides-same s l r l' r' f g e =
    let is : tree_of_word s l ≡ tree_of_word s r = sym f.same ∙ (ap (tree_of_word s) e ∙ g.same) in
    solved_by s s (Sides s l r) [] (Extends-refl s) (subst (λ t. Solved ((tree_of_word s l, t) ∷ []) (Some [])) is (same solved)) (sym (append-nil (bound s)))

pub sides-clash : (s : State) (l r l' r' : Word) → Found s l l' → Found s r r' → IsClash (shape s l') (shape s r') → Solved (Sides s l r) None
sides-clash s l r l' r' f g c =
    subst (λ t. Solved ((t, tree_of_word s r) ∷ []) None) (sym (found-shape s l l' f)) (subst (λ t. Solved ((shape s l', t) ∷ []) None) (sym (found-shape s r r' g)) (clash c))

pub sides-left : (s s' : State) (l r l' r' : Word) (n : ℕ) (ok : Bool) → Found s l l' → Found s r r' → l' ≡ Var n → Lower n r' → OnlyBinds s s'
    → (IsTrue ok → bound s' ≡ bound s ++ (n, tree_of_word s r') ∷ []) → occurs n (tree_of_word s r') ≡ not ok → Answer s s' (Sides s l r) ok
sides-left s s' l r l' r' n true f g e low only made absent =
    let left_is : tree_of_word s l ≡ var n = found-shape s l l' f ∙ ap (shape s) e in
    let right_is : tree_of_word s r' ≡ shape s r' = tree_of_word-shape s r' g.free in
    let one : Solved ((var n, tree_of_word s r') ∷ []) (Some ((n, tree_of_word s r') ∷ [])) =
    subst (λ t. Solved ((var n, t) ∷ []) (Some ((n, t) ∷ []))) (sym right_is) (shape_left s n r' low (subst (λ t. occurs n t ≡ false) right_is absent)) in
    let both : Solved (Sides s l r) (Some ((n, tree_of_word s r') ∷ [])) =
    subst (λ t. Solved ((t, tree_of_word s r) ∷ []) (Some ((n, tree_of_word s r') ∷ []))) (sym left_is) (subst (λ t. Solved ((var n, t) ∷ []) (Some ((n, tree_of_word s r') ∷ []))) g.same one) in
    solved_by s s' (Sides s l r) ((n, tree_of_word s r') ∷ []) only.extends both (made refl)
sides-left s s' l r l' r' n false f g e low only made absent =
    let left_is : tree_of_word s l ≡ var n = found-shape s l l' f ∙ ap (shape s) e in
    let right_is : tree_of_word s r' ≡ shape s r' = tree_of_word-shape s r' g.free in
    subst (λ t. Solved ((t, tree_of_word s r) ∷ []) None) (sym left_is) (subst (λ t. Solved ((var n, t) ∷ []) None) (sym right_is ∙ g.same) (shape_in_left s n r' low (subst (λ t. occurs n t ≡ true) right_is absent)))

pub sides-right : (s s' : State) (l r l' r' : Word) (n : ℕ) (ok : Bool) → Found s l l' → Found s r r' → r' ≡ Var n → Lower n l' → OnlyBinds s s'
    → (IsTrue ok → bound s' ≡ bound s ++ (n, tree_of_word s l') ∷ []) → occurs n (tree_of_word s l') ≡ not ok → Answer s s' (Sides s l r) ok
sides-right s s' l r l' r' n true f g e low only made absent =
    let right_is : tree_of_word s r ≡ var n = found-shape s r r' g ∙ ap (shape s) e in
    let left_is : tree_of_word s l' ≡ shape s l' = tree_of_word-shape s l' f.free in
    let one : Solved ((tree_of_word s l', var n) ∷ []) (Some ((n, tree_of_word s l') ∷ [])) =
    subst (λ t. Solved ((t, var n) ∷ []) (Some ((n, t) ∷ []))) (sym left_is) (shape_right s n l' low (subst (λ t. occurs n t ≡ false) left_is absent)) in
    let both : Solved (Sides s l r) (Some ((n, tree_of_word s l') ∷ [])) =
    subst (λ t. Solved ((tree_of_word s l, t) ∷ []) (Some ((n, tree_of_word s l') ∷ []))) (sym right_is) (subst (λ t. Solved ((t, var n) ∷ []) (Some ((n, tree_of_word s l') ∷ []))) f.same one) in
    solved_by s s' (Sides s l r) ((n, tree_of_word s l') ∷ []) only.extends both (made refl)
sides-right s s' l r l' r' n false f g e low only made absent =
    let right_is : tree_of_word s r ≡ var n = found-shape s r r' g ∙ ap (shape s) e in
    let left_is : tree_of_word s l' ≡ shape s l' = tree_of_word-shape s l' f.free in
    subst (λ t. Solved ((tree_of_word s l, t) ∷ []) None) (sym right_is) (subst (λ t. Solved ((t, var n) ∷ []) None) (sym left_is ∙ f.same) (shape_in_right s n l' low (subst (λ t. occurs n t ≡ true) left_is absent)))

-- the equations of two compounds' arguments are solved in place of theirs
pub sides-parts : (s s' : State) (l r : Word) (work : List (ℕ × ℕ)) (f : NameId) (k first second : ℕ) (ok : Bool) → Found s l (Comp k f first) → Found s r (Comp k f second)
    → reverse work ≡ pair_span first second k → Answer s s' (equations s work) ok → Answer s s' (Sides s l r) ok
sides-parts s s' l r work f k first second ok a b pushed ans =
    let ts : Trees ℕ = trees (take k (drop first (places s))) in
    let us : Trees ℕ = trees (take k (drop second (places s))) in
    let is : equations s work ≡ pairs ts us [] =
    ap (map (pair_trees s)) pushed ∙ (sym (append-nil (map (pair_trees s) (pair_span first second k))) ∙ pairs-span s first second k [] a.within.0 b.within.0) in
    let counts_are : count ts ≡ count us = count-args s k first a.within.0 ∙ sym (count-args s k second b.within.0) in
    let lift : (x : Option (List (ℕ × Tree ℕ))) → Solved (equations s work) x → Solved (Sides s l r) x = λ x h.
    subst (λ t. Solved ((t, tree_of_word s r) ∷ []) x) (sym (found-shape s l (Comp k f first) a)) (subst (λ t. Solved ((comp f.0 ts, t) ∷ []) x) (sym (found-shape s r (Comp k f second) b)) (parts counts_are (subst (λ es. Solved es x) is h))) in
    go ok lift ans
  where
    go : (y : Bool) → ((x : Option (List (ℕ × Tree ℕ))) → Solved (equations s work) x → Solved (Sides s l r) x) → Answer s s' (equations s work) y → Answer s s' (Sides s l r) y
    go true lift d = solved_by s s' (Sides s l r) d.unifier d.extends (lift (Some d.unifier) d.solved) d.bound
    go false lift d = lift None d

pub IfOk-two : {E : Type 0} (r : Result Bool E) (P Q R : Bool → Type 0) → ((y : Bool) → P y → Q y → R y) → IfOk r P → IfOk r Q → IfOk r R
IfOk-two (Ok x) P Q R f h g = f x h g
IfOk-two (Err e) P Q R f h g = h

pub IfOk-one : {E : Type 0} (r : Result Bool E) (P R : Bool → Type 0) → ((y : Bool) → P y → R y) → IfOk r P → IfOk r R
IfOk-one (Ok x) P R f h = f x h
IfOk-one (Err e) P R f h = h

-- a variable that was not there takes the word of a place
pub first-solved : (s mid s' : State) (place n : ℕ) (end : Word) → IsStore mid → Grows s mid → mid.next ≡ n → place < length s.cells
    → tree_at mid (record { 0 = place }) ≡ shape mid end → WordIn (length mid.cells) mid.next end → ((m : ℕ) → end ≡ Var m → IsFree m mid.links) → Born mid s' end
    → SolvedBy s s' ((tree_at s (record { 0 = place }), var n) ∷ [])
first-solved s mid s' place n end st grows at h here within free born =
    let t : Tree ℕ = tree_of_word mid end in
    let shape_is : t ≡ shape mid end = tree_of_word-shape mid end free in
    let is : t ≡ tree_at s (record { 0 = place }) = shape_is ∙ (sym here ∙ grows.places (record { 0 = place }) h) in
    let absent : occurs n t ≡ false = absent-new mid end n st (omega arith) within in
    let low : Lower n end = λ m e. let l : m < mid.next = subst (WordIn (length mid.cells) mid.next) e within in omega arith in
    let one : Solved ((t, var n) ∷ []) (Some ((n, t) ∷ [])) =
    subst (λ x. Solved ((x, var n) ∷ []) (Some ((n, x) ∷ []))) (sym shape_is) (shape_right mid n end low (subst (λ x. occurs n x ≡ false) shape_is absent)) in
    solved_by s s' ((tree_at s (record { 0 = place }), var n) ∷ []) ((n, t) ∷ []) (Extends-trans s mid s' grows.extends born.extends)
    (subst (λ x. Solved ((x, var n) ∷ []) (Some ((n, t) ∷ []))) is one)
    (born.bound ∙ (ap (λ k. bound mid ++ (k, t) ∷ []) at ∙ ap (λ bs. bs ++ (n, t) ∷ []) grows.bound))

-- an unbound variable is bound to a constant
pub constant-bound : (s s' : State) (t constant : Tree ℕ) (n : ℕ) → t ≡ var n → IsOther constant → occurs n constant ≡ false → Binds s s' n constant → SolvedBy s s' ((t, constant) ∷ [])
constant-bound s s' t constant n is other absent binds =
    solved_by s s' ((t, constant) ∷ []) ((n, constant) ∷ []) binds.extends
    (subst (λ x. Solved ((x, constant) ∷ []) (Some ((n, constant) ∷ []))) (sym is) (left other absent solved)) binds.bound

-- words that are no variable and not of a constant's kind
pub not_int : (s : State) (w : Word) (z : ℤ) → ((n : ℕ) → w ≡ Var n → ⊥) → ((y : ℤ) → w ≡ Int y → ⊥) → IsClash (shape s w) (int z)
not_int s (Var n) z v i = absurd (v n refl)
not_int s (Int y) z v i = absurd (i y refl)
not_int s (Name a) z v i = atom_int
not_int s (Comp k f first) z v i = comp_int

pub not_name : (s : State) (w : Word) (a : ℕ) → ((n : ℕ) → w ≡ Var n → ⊥) → ((b : NameId) → w ≡ Name b → ⊥) → IsClash (shape s w) (atom a)
not_name s (Var n) a v i = absurd (v n refl)
not_name s (Int y) a v i = int_atom
not_name s (Name b) a v i = absurd (i b refl)
not_name s (Comp k f first) a v i = comp_atom

-- the two sides are one tree, or clash
pub tree-same : (s : State) (t u : Tree ℕ) → t ≡ u → SolvedBy s s ((t, u) ∷ [])
tree-same s t u e = solved_by s s ((t, u) ∷ []) [] (Extends-refl s) (subst (λ x. Solved ((t, x) ∷ []) (Some [])) e (same solved)) (sym (append-nil (bound s)))

pub tree-clash : (t t' u : Tree ℕ) → t ≡ t' → IsClash t' u → Solved ((t, u) ∷ []) None
tree-clash t t' u e c = subst (λ x. Solved ((x, u) ∷ []) None) (sym e) (clash c)

-- the tree of a place of code, by its word
pub code_word : (s : State) (b : ℕ) (ws : List CodeWord) (vars p : ℕ) (w : CodeWord) → IsCode ws vars → p < length ws → w ≡ get_or ws p no_code
    → code_tree_in s b ws p ≡ apply (bound s) (raise b (word_tree (code_base ws) (plain w)))
code_word s b ws vars p w code h e = ap (λ t. apply (bound s) (raise b t)) (code_tree-at ws vars p code h ∙ ap (λ x. word_tree (code_base ws) (plain x)) (sym e))

pub code_var : (s : State) (b : ℕ) (ws : List CodeWord) (vars p n : ℕ) → IsCode ws vars → p < length ws → K.Var n ≡ get_or ws p no_code → code_tree_in s b ws p ≡ tree_of_var s (n + b)
code_var s b ws vars p n code h e = code_word s b ws vars p (K.Var n) code h e

answer-grown : (s mid s' : State) (es : List (Tree ℕ × Tree ℕ)) (ok : Bool) → Grows s mid → Answer mid s' es ok → Answer s s' es ok
answer-grown s mid s' es true g d = solved_by s s' es d.unifier (Extends-trans s mid s' g.extends d.extends) d.solved (d.bound ∙ ap (λ bs. bs ++ d.unifier) g.bound)
answer-grown s mid s' es false g d = d

-- an unbound variable is bound to what was built of the code, which is no variable
pub built-answer : (s mid s' : State) (n : ℕ) (built : Word) (b : ℕ) (ws : List CodeWord) (p : ℕ) (ok : Bool) → Grows s mid → n < s.next → IsFree n s.links
    → WordIn (length mid.cells) mid.next built → ((m : ℕ) → built ≡ Var m → ⊥) → tree_of_word mid built ≡ code_tree_in s b ws p → OnlyBinds mid s'
    → (IsTrue ok → bound s' ≡ bound mid ++ (n, tree_of_word mid built) ∷ []) → occurs n (tree_of_word mid built) ≡ not ok → Answer s s' (code_equation s b ws (var n) p) ok
built-answer s mid s' n built b ws p ok g low unbound within no_var e only made absent =
    let free : (k : ℕ) → Var n ≡ Var k → IsFree k mid.links = λ k q. let same_number : n ≡ k = cc in subst (λ m. IsFree m mid.links) same_number (subst (IsFree n) (sym g.links) unbound) in
    let left_found : Found mid (Var n) (Var n) = record { same = refl; within = omega (arith, g.extends.next); free = free } in
    let right_found : Found mid built built = record { same = refl; within = within; free = λ k q. absurd (no_var k q) } in
    let sides : Sides mid (Var n) built ≡ code_equation s b ws (var n) p = ap (λ t. (t, tree_of_word mid built) ∷ []) (tree_of_word-shape mid (Var n) free) ∙ ap (λ t. (var n, t) ∷ []) e in
    answer-grown s mid s' (code_equation s b ws (var n) p) ok g
    (subst (λ es. Answer mid s' es ok) sides (sides-left mid s' (Var n) built (Var n) built n ok left_found right_found refl (λ m q. absurd (no_var m q)) only made absent))

-- an equation that is solved whole leaves nothing
matched_solved : (s s' : State) (b : ℕ) (ws : List CodeWord) (t : Tree ℕ) (p : ℕ) → SolvedBy s s' (code_equation s b ws t p) → Matched s s' b ws t p []
matched_solved s s' b ws t p d = record {
  extends = d.extends;
  unifier = d.unifier;
  bound = d.bound;
  below = tt;
  smaller = size_pos (code_tree ws p);
  reduces = λ es r h. then d.solved es r h;
}

pub met_answer : (s s' : State) (b : ℕ) (ws : List CodeWord) (t : Tree ℕ) (p : ℕ) (yes : Bool) (m : Met) → MatchBool yes (m ≡ M.Done) (m ≡ M.Clash) → Answer s s' (code_equation s b ws t p) yes → IsMet s s' b ws t p m
met_answer s s' b ws t p true m e d = subst (IsMet s s' b ws t p) (sym e) (matched_solved s s' b ws t p d)
met_answer s s' b ws t p false m e d = subst (IsMet s s' b ws t p) (sym e) d

-- the trees of the code's places in a state
abbrev pub code_places : State → ℕ → List CodeWord → List (Tree ℕ)
code_places s b ws = map (λ t. apply (bound s) (raise b t)) (code_base ws)

length-code_places : (s : State) (b : ℕ) (ws : List CodeWord) → length (code_places s b ws) ≡ length ws
length-code_places s b ws = length-map (code_base ws) (λ t. apply (bound s) (raise b t)) ∙ (length-bases_nil (map plain ws) ∙ length-map ws plain)

code_at : (s : State) (b : ℕ) (ws : List CodeWord) (p : ℕ) → p < length ws → code_tree_in s b ws p ≡ get_or (code_places s b ws) p (var 0)
code_at s b ws p h =
    let low : p < length (code_base ws) = omega (arith, length-bases_nil (map plain ws), length-map ws plain) in
    sym (get_or-map (λ t. apply (bound s) (raise b t)) (code_base ws) p (var 0) (var 0) low)

map-map : (f g : Tree ℕ → Tree ℕ) (ts : List (Tree ℕ)) → map f (map g ts) ≡ map (λ t. f (g t)) ts
map-map f g [] = refl
map-map f g (t ∷ ts) = ap (λ r. f (g t) ∷ r) (map-map f g ts)

code_comp : (s : State) (b : ℕ) (ws : List CodeWord) (k : ℕ) (f : NameId) (first from : ℕ) → first + k ≤ length ws
    → apply (bound s) (raise b (word_tree (code_base ws) (plain (K.Comp k f first from)))) ≡ comp f.0 (trees (take k (drop first (code_places s b ws))))
code_comp s b ws k f first from h =
    let args : List (Tree ℕ) = take k (drop first (code_base ws)) in
    let g : Tree ℕ → Tree ℕ = λ t. apply (bound s) (raise b t) in
    let span : take k (drop first (code_places s b ws)) ≡ map g args =
    same_span g (code_places s b ws) (code_base ws) first first k (omega (arith, length-code_places s b ws)) (omega (arith, length-bases_nil (map plain ws), length-map ws plain))
    (λ i l. sym (code_at s b ws (first + i) (omega arith))) in
    apply-comp (bound s) f.0 (raise_all b (trees args))
    ∙ ap (comp f.0) (ap (apply_all (bound s)) (trees-raise b args) ∙ (apply_all-trees (bound s) (map (raise b) args) ∙ ap trees (map-map (apply (bound s)) (raise b) args ∙ sym span)))

-- the equations of arguments are those of their places
code_pairs : (s : State) (b : ℕ) (ws : List CodeWord) (first second k : ℕ) (es : List (Tree ℕ × Tree ℕ)) → first + k ≤ length s.cells → second + k ≤ length ws
    → code_equations s b ws (pair_span first second k) ++ es ≡ pairs (trees (take k (drop first (places s)))) (trees (take k (drop second (code_places s b ws)))) es
code_pairs s b ws first second zero es h g = refl
code_pairs s b ws first second (suc k) es h g =
    let low : first < length (places s) = omega (arith, length-places s) in
    let low2 : second < length (code_places s b ws) = omega (arith, length-code_places s b ws) in
    let x : Tree ℕ = get_or (places s) first (var 0) in
    let y : Tree ℕ = get_or (code_places s b ws) second (var 0) in
    let one : tree_at s (record { 0 = first }) ≡ x = tree_at-places s first (omega arith) in
    let two : code_tree_in s b ws second ≡ y = code_at s b ws second (omega arith) in
    let rest : code_equations s b ws (pair_span (first + 1) (second + 1) k) ++ es ≡ pairs (trees (take k (drop (first + 1) (places s)))) (trees (take k (drop (second + 1) (code_places s b ws)))) es =
    code_pairs s b ws (first + 1) (second + 1) k es (omega arith) (omega arith) in
    ap (λ t. (t, code_tree_in s b ws second) ∷ (code_equations s b ws (pair_span (first + 1) (second + 1) k) ++ es)) one
    ∙ (ap (λ t. (x, t) ∷ (code_equations s b ws (pair_span (first + 1) (second + 1) k) ++ es)) two
    ∙ (ap (λ r. (x, y) ∷ r) rest
    ∙ sym (ap (λ xs. pairs (trees (take (suc k) xs)) (trees (take (suc k) (drop second (code_places s b ws)))) es) (drop_more (places s) first (var 0) low)
    ∙ ap (λ xs. pairs (cons x (trees (take k (drop (first + 1) (places s))))) (trees (take (suc k) xs)) es) (drop_more (code_places s b ws) second (var 0) low2))))

pairs-in : (cells words first second k : ℕ) → first + k ≤ cells → second + k ≤ words → PairsIn cells words (pair_span first second k)
pairs-in cells words first second zero h g = tt
pairs-in cells words first second (suc k) h g = (omega arith, omega arith, pairs-in cells words (first + 1) (second + 1) k (omega arith) (omega arith))

weight-span : (ws : List CodeWord) (first second k : ℕ) → second + k ≤ length ws → code_weight ws (pair_span first second k) ≡ sizes (trees (take k (drop second (code_base ws))))
weight-span ws first second zero h = refl
weight-span ws first second (suc k) h =
    let low : second < length (code_base ws) = omega (arith, length-bases_nil (map plain ws), length-map ws plain) in
    omega (arith, weight-span ws (first + 1) (second + 1) k (omega arith), ap (λ xs. sizes (trees (take (suc k) xs))) (drop_more (code_base ws) second (var 0) low))

-- two compounds of one name and arity: their arguments are still to be solved
pub matched_parts : (s : State) (b : ℕ) (ws : List CodeWord) (vars : ℕ) (t : Tree ℕ) (p : ℕ) (k : ℕ) (f : NameId) (place first from : ℕ)
    → IsCode ws vars → p < length ws → K.Comp k f first from ≡ get_or ws p no_code → t ≡ shape s (Comp k f place) → WordIn (length s.cells) s.next (Comp k f place) → Matched s s b ws t p (pair_span place first k)
matched_parts s b ws vars t p k f place first from code h e left_is there =
    let within : CodeIn ws vars p (K.Comp k f first from) = subst (CodeIn ws vars p) (sym e) (code.words_in p h) in
    let low : first + k ≤ length ws = omega (arith, within.1) in
    let ts : Trees ℕ = trees (take k (drop place (places s))) in
    let us : Trees ℕ = trees (take k (drop first (code_places s b ws))) in
    let right_is : code_tree_in s b ws p ≡ comp f.0 us = code_word s b ws vars p (K.Comp k f first from) code h e ∙ code_comp s b ws k f first from low in
    let count_us : count us ≡ k = count-trees (take k (drop first (code_places s b ws))) ∙ length-take-le k (drop first (code_places s b ws)) (omega (arith, length-drop first (code_places s b ws), length-code_places s b ws)) in
    let counts_are : count ts ≡ count us = count-args s k place there.0 ∙ sym count_us in
    record {
      extends = Extends-refl s;
      unifier = [];
      bound = sym (append-nil (bound s));
      below = pairs-in (length s.cells) (length ws) place first k there.0 low;
      smaller = omega (arith, weight-span ws place first k low, ap size (code_tree-at ws vars p code h ∙ ap (λ x. word_tree (code_base ws) (plain x)) (sym e)));
      reduces = λ es r y.
          let z : Solved (pairs ts us es) r = subst (λ x. Solved x r) (ap (λ q. code_equations s b ws (pair_span place first k) ++ q) (applied-nil es) ∙ code_pairs s b ws place first k es there.0 low) y in
          subst (Solved ((t, code_tree_in s b ws p) ∷ es)) (sym (after-none r))
          (subst (λ x. Solved ((x, code_tree_in s b ws p) ∷ es) r) (sym left_is) (subst (λ x. Solved ((comp f.0 ts, x) ∷ es) r) (sym right_is) (parts counts_are z)));
    }

-- words that are no variable and have not the compound's name and arity
pub matched_clash : (s : State) (b : ℕ) (ws : List CodeWord) (vars : ℕ) (t : Tree ℕ) (end : Word) (p k : ℕ) (f : NameId) (first from : ℕ) → IsCode ws vars → p < length ws → K.Comp k f first from ≡ get_or ws p no_code
    → t ≡ shape s end → WordIn (length s.cells) s.next end → ((n : ℕ) → end ≡ Var n → ⊥) → ((j : ℕ) (g : NameId) (place : ℕ) → end ≡ Comp j g place → (f ≢ g) ⊎ (k ≢ j)) → Solved (code_equation s b ws t p) None
matched_clash s b ws vars t end p k f first from code h e left_is there no_var other =
    let within : CodeIn ws vars p (K.Comp k f first from) = subst (CodeIn ws vars p) (sym e) (code.words_in p h) in
    let low : first + k ≤ length ws = omega (arith, within.1) in
    let us : Trees ℕ = trees (take k (drop first (code_places s b ws))) in
    let right_is : code_tree_in s b ws p ≡ comp f.0 us = code_word s b ws vars p (K.Comp k f first from) code h e ∙ code_comp s b ws k f first from low in
    let count_us : count us ≡ k = count-trees (take k (drop first (code_places s b ws))) ∙ length-take-le k (drop first (code_places s b ws)) (omega (arith, length-drop first (code_places s b ws), length-code_places s b ws)) in
    subst (λ x. Solved ((x, code_tree_in s b ws p) ∷ []) None) (sym left_is) (subst (λ x. Solved ((shape s end, x) ∷ []) None) (sym right_is) (clash (go end us count_us there no_var other)))
  where
    go : (x : Word) (us : Trees ℕ) → count us ≡ k → WordIn (length s.cells) s.next x → ((n : ℕ) → x ≡ Var n → ⊥) → ((j : ℕ) (g : NameId) (place : ℕ) → x ≡ Comp j g place → (f ≢ g) ⊎ (k ≢ j)) → IsClash (shape s x) (comp f.0 us)
    go (Var n) us c v nv o = absurd (nv n refl)
    go (Int z) us c v nv o = int_comp
    go (Name a) us c v nv o = atom_comp
    go (Comp j g place) us c v nv o = elim (o j g place refl) [ inl ne ↦ names (λ q. ne (ap (λ n. record { 0 = n }) (sym q))) | inr ne ↦ counts (λ q. ne (sym c ∙ (sym q ∙ count-args s j place v.0))) ]

pub after-after : (u v : List (ℕ × Tree ℕ)) (r : Option (List (ℕ × Tree ℕ))) → after u (after v r) ≡ after (u ++ v) r
after-after u v None = refl
after-after u v (Some bs) = ap Some (sym (append_assoc u v bs))

-- equations of places that are there move with the state
equations-move : (s s' : State) (b : ℕ) (ws : List CodeWord) (u : List (ℕ × Tree ℕ)) (ps : List (ℕ × ℕ)) → Extends s s' → bound s' ≡ bound s ++ u → PairsIn (length s.cells) (length ws) ps
    → code_equations s' b ws ps ≡ applied u (code_equations s b ws ps)
equations-move s s' b ws u [] x e h = refl
equations-move s s' b ws u (p ∷ ps) x e h =
    ap (λ t. (t, code_tree_in s' b ws p.1) ∷ code_equations s' b ws ps) (place-moves s s' u (record { 0 = p.0 }) x e h.0)
    ∙ (ap (λ t. (apply u (tree_at s (record { 0 = p.0 })), t) ∷ code_equations s' b ws ps) (tree-moves s s' u (raise b (code_tree ws p.1)) e)
    ∙ ap (λ r. (apply u (tree_at s (record { 0 = p.0 })), apply u (code_tree_in s b ws p.1)) ∷ r) (equations-move s s' b ws u ps x e h.2))

PairsIn-append : (c n : ℕ) (xs ys : List (ℕ × ℕ)) → PairsIn c n xs → PairsIn c n ys → PairsIn c n (xs ++ ys)
PairsIn-append c n [] ys h g = g
PairsIn-append c n (x ∷ xs) ys h g = (h.0, h.1, PairsIn-append c n xs ys h.2 g)

PairsIn-more : (c c' n : ℕ) (xs : List (ℕ × ℕ)) → c ≤ c' → PairsIn c n xs → PairsIn c' n xs
PairsIn-more c c' n [] up h = tt
PairsIn-more c c' n (x ∷ xs) up h = (omega (arith, h.0), h.1, PairsIn-more c c' n xs up h.2)

weight-append : (ws : List CodeWord) (xs ys : List (ℕ × ℕ)) → code_weight ws (xs ++ ys) ≡ code_weight ws xs + code_weight ws ys
weight-append ws [] ys = omega arith
weight-append ws (x ∷ xs) ys = omega (arith, weight-append ws xs ys)

-- a list of equations, of which the first is looked at
module _ (s0 s s' : State) (b : ℕ) (ws : List CodeWord) (all : List (Tree ℕ × Tree ℕ)) (now rest : List (ℕ × ℕ)) (place q : ℕ)
    (k : Matching s0 s b ws all (code_equations s b ws now)) (split : now ≡ (place, q) ∷ rest) (below : PairsIn (length s.cells) (length ws) now) where
  turn-below : (place < length s.cells) × (q < length ws) × PairsIn (length s.cells) (length ws) rest
  turn-below = subst (PairsIn (length s.cells) (length ws)) split below

  turn-start : (r : Option (List (ℕ × Tree ℕ))) → Solved ((tree_at s (record { 0 = place }), code_tree_in s b ws q) ∷ code_equations s b ws rest) r → Solved all (after k.unifier r)
  turn-start r h = k.reduces r (subst (λ es. Solved es r) (sym (ap (code_equations s b ws) split)) h)

  pub turn-none : Solved (code_equation s b ws (tree_at s (record { 0 = place })) q) None → Solved all None
  turn-none h = turn-start None (then h (code_equations s b ws rest))

  pub turn-matching : (more next : List (ℕ × ℕ)) → next ≡ more ++ rest → Matched s s' b ws (tree_at s (record { 0 = place })) q more → Matching s0 s' b ws all (code_equations s' b ws next)
  turn-matching more next e m = record {
    extends = Extends-trans s0 s s' k.extends m.extends;
    unifier = k.unifier ++ m.unifier;
    bound = m.bound ∙ (ap (λ bs. bs ++ m.unifier) k.bound ∙ append_assoc (bound s0) k.unifier m.unifier);
    reduces = λ r h.
        let list : code_equations s' b ws next ≡ code_equations s' b ws more ++ applied m.unifier (code_equations s b ws rest) =
        ap (code_equations s' b ws) e ∙ (map-append (λ p. (tree_at s' (record { 0 = p.0 }), code_tree_in s' b ws p.1)) more rest
        ∙ ap (λ es. code_equations s' b ws more ++ es) (equations-move s s' b ws m.unifier rest m.extends m.bound turn-below.2)) in
        subst (Solved all) (after-after k.unifier m.unifier r) (turn-start (after m.unifier r) (m.reduces (code_equations s b ws rest) r (subst (λ es. Solved es r) list h)));
  }

  pub turn-in : (more next : List (ℕ × ℕ)) → next ≡ more ++ rest → Matched s s' b ws (tree_at s (record { 0 = place })) q more → PairsIn (length s'.cells) (length ws) next
  turn-in more next e m =
      subst (PairsIn (length s'.cells) (length ws)) (sym e) (PairsIn-append (length s'.cells) (length ws) more rest m.below (PairsIn-more (length s.cells) (length s'.cells) (length ws) rest m.extends.more_cells turn-below.2))

  pub turn-smaller : (more next : List (ℕ × ℕ)) → next ≡ more ++ rest → Matched s s' b ws (tree_at s (record { 0 = place })) q more → code_weight ws next < code_weight ws now
  turn-smaller more next e m = omega (arith, ap (code_weight ws) e, weight-append ws more rest, ap (code_weight ws) split, m.smaller)

pub matching_done : (s0 s : State) (b : ℕ) (ws : List CodeWord) (all ahead : List (Tree ℕ × Tree ℕ)) → Matching s0 s b ws all ahead → ahead ≡ [] → SolvedBy s0 s all
matching_done s0 s b ws all ahead k none =
    solved_by s0 s all k.unifier k.extends (subst (λ u. Solved all (Some u)) (append-nil k.unifier) (k.reduces (Some []) (subst (λ es. Solved es (Some [])) (sym none) solved))) k.bound

pub first-tree : (s : State) (b : ℕ) (ws : List CodeWord) (p n : ℕ) → IsStore s → s.next ≤ n → code_tree_in s b ws p ≡ tree_of_var s n → var n ≡ code_tree_in s b ws p
first-tree s b ws p n st up e = sym (e ∙ apply-free (base s) [] s.links n refl (free-new s n st up))

-- a state may be written for an equal one
pub answer-moved : (s0 s1 s2 s3 : State) (w : List (ℕ × ℕ)) (ok : Bool) → s1 ≡ s0 → s3 ≡ s2 → Answer s1 s2 (equations s1 w) ok → Answer s0 s3 (equations s0 w) ok
answer-moved s0 s1 s2 s3 w ok e f d = subst (λ s. Answer s0 s (equations s0 w) ok) (sym f) (subst (λ s. Answer s s2 (equations s w) ok) e d)
