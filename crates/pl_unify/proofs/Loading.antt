-- Steps of `load`.
use Rattle.std.proofs.Common.{◌≡◌, ℕ, zero, suc, ◌+◌, ◌<◌, ◌≤◌, max, List, [], ◌∷◌, ◌++◌, take, drop, length, get_or, refl, ap, ◌∙◌, sym, subst, arith, map, reverse, ◌^◌, Ok, Err, Result}
use Rattle.std.specs.Prelude.{OnOk, IfOk}
use Rattle.std.proofs.lemmas.List.{append-nil, append_assoc, length_push, length-append, reverse-append, take-map, drop-map, length-map, length-take-le, drop_at, take_all, get_or_push, length-reverse, drop_more}
use Rattle.pl_atoms.specs.declared.names.NameId.{NameId}
use Rattle.pl_terms.specs.declared.cell.Cell.{Cell}
use Rattle.pl_terms.specs.declared.cell.Cell.TheVariants as C
use Rattle.pl_terms.specs.Trees.{Tree, var, comp}
use Rattle.unifier_model.specs.Substitution.{raise, apply}
use Rattle.pl_terms.specs.Cells.{IsCell}
use Rattle.pl_unify.specs.Prefix.{trees, build, with_cell, first_tree}
use Rattle.pl_unify.proofs.PrefixLaws.{trees-raise, Enough, Enough-drop}
use Rattle.pl_unify.specs.declared.word.Word.{Word}
use Rattle.pl_unify.specs.declared.word.Word.TheVariants.{Var, Comp}
use Rattle.pl_unify.specs.Words.{word_tree, bases, no_word, WordIn}
use Rattle.pl_unify.specs.State.{State, IsStore, base, bound, tree_at, links_of, IsStoreInside, Grows, IsRef}
use Rattle.pl_unify.specs.Load.{NewInOrder, next_after, WordsIn, word_trees, CellAllowed, raise_cell}
use Rattle.pl_unify.proofs.Grown.{bases-append, length-bases_nil, word_tree-append}
use Rattle.pl_unify.proofs.Follow.{inside}
use Rattle.pl_unify.proofs.Adds.{WordIn-more, with_more, with_more-store, with_more-grows, with_more-bound, links_of-append, inside-push, one_var}
use Rattle.pl_unify.proofs.StoreLaws.{Extends-trans, Extends-refl}

pub Grows-refl : (a : State) → Grows a a
Grows-refl a = record { extends = Extends-refl a; links = refl; bound = refl; places = λ r h. refl; variables = λ n. refl }

pub Grows-trans : (a b c : State) → Grows a b → Grows b c → Grows a c
Grows-trans a b c h g = record {
  extends = Extends-trans a b c h.extends g.extends;
  links = g.links ∙ h.links;
  bound = g.bound ∙ h.bound;
  places = λ r k. let up : IsRef b r = omega (arith, h.extends.more_cells) in g.places r up ∙ h.places r k;
  variables = λ n. g.variables n ∙ h.variables n;
}

-- one more variable
pub record VariableMade (cells vars : List Word) (trail : List ℕ) : Type 0 where
  pub fields : IsStoreInside cells (vars ++ one_var vars) trail
  pub grows : Grows (inside cells vars trail) (inside cells (vars ++ one_var vars) trail)

pub variable_made : (cells vars : List Word) (trail : List ℕ) → IsStoreInside cells vars trail → VariableMade cells vars trail
variable_made cells vars trail inv =
    let s : State = inside cells vars trail in
    let st : IsStore (with_more s [] (length vars + 1)) = with_more-store s [] (length vars + 1) inv.store (omega arith) (λ p l. absurd (omega arith)) in
    let same : links_of (vars ++ one_var vars) trail ≡ links_of vars trail = links_of-append cells vars (one_var vars) trail inv in
    let count : length (vars ++ one_var vars) ≡ length vars + 1 = length_push vars (Var (length vars)) in
    let none : cells ++ [] ≡ cells = append-nil cells in
    let state : inside cells (vars ++ one_var vars) trail ≡ with_more s [] (length vars + 1) = rw (same, count, none) in
    record {
      fields = subst (λ cs. IsStoreInside cs (vars ++ one_var vars) trail) none (inside-push cells vars [] trail inv st);
      grows = subst (Grows s) (sym state) (with_more-grows s [] (length vars + 1) inv.store (omega arith));
    }

pub WordsIn-take : (c n k : ℕ) (ws : List Word) → WordsIn c n ws → WordsIn c n (take k ws)
WordsIn-take c n zero ws h = tt
WordsIn-take c n (suc k) [] h = tt
WordsIn-take c n (suc k) (w ∷ ws) h = (h.0, WordsIn-take c n k ws h.1)

pub WordsIn-drop : (c n k : ℕ) (ws : List Word) → WordsIn c n ws → WordsIn c n (drop k ws)
WordsIn-drop c n zero ws h = h
WordsIn-drop c n (suc k) [] h = tt
WordsIn-drop c n (suc k) (w ∷ ws) h = WordsIn-drop c n k ws h.1

pub WordsIn-more : (c n c' n' : ℕ) (ws : List Word) → c ≤ c' → n ≤ n' → WordsIn c n ws → WordsIn c' n' ws
WordsIn-more c n c' n' [] hc hn h = tt
WordsIn-more c n c' n' (w ∷ ws) hc hn h = (WordIn-more c n c' n' w hc hn h.0, WordsIn-more c n c' n' ws hc hn h.1)

pub WordsIn-at : (c n : ℕ) (ws : List Word) (p : ℕ) → p < length ws → WordsIn c n ws → WordIn (c + p) n (get_or ws p no_word)
WordsIn-at c n [] p l h = absurd (omega arith)
WordsIn-at c n (w ∷ ws) zero l h = WordIn-more c n (c + 0) n w (omega arith) (omega arith) h.0
WordsIn-at c n (w ∷ ws) (suc p) l h = WordIn-more (c + p) n (c + suc p) n (get_or ws p no_word) (omega arith) (omega arith) (WordsIn-at c n ws p (omega arith) h.1)

-- words whose arguments are there keep their trees
pub map-words : (b more : List (Tree ℕ)) (n : ℕ) (ws : List Word) → WordsIn (length b) n ws → map (word_tree (b ++ more)) ws ≡ map (word_tree b) ws
map-words b more n [] h = refl
map-words b more n (w ∷ ws) h =
    ap (λ t. t ∷ map (word_tree (b ++ more)) ws) (word_tree-append b more w n h.0) ∙ ap (λ ts. word_tree b w ∷ ts) (map-words b more n ws h.1)

pub bases-words : (b : List (Tree ℕ)) (n : ℕ) (ws : List Word) → WordsIn (length b) n ws → bases b ws ≡ b ++ map (word_tree b) ws
bases-words b n [] h = sym (append-nil b)
bases-words b n (w ∷ ws) h =
    let next : List (Tree ℕ) = b ++ word_tree b w ∷ [] in
    let up : WordsIn (length next) n ws = WordsIn-more (length b) n (length next) n ws (omega (arith, length_push b (word_tree b w))) (omega arith) h.1 in
    bases-words next n ws up
    ∙ (ap (λ ts. next ++ ts) (map-words b (word_tree b w ∷ []) n ws h.1) ∙ append_assoc b (word_tree b w ∷ []) (map (word_tree b) ws))

-- words that are put behind the places
pub record BlockMade (s new : State) (ws : List Word) (k : ℕ) : Type 0 where
  pub store : IsStore new
  pub grows : Grows s new
  pub bases : base new ≡ base s ++ map (word_tree (base s)) (take k ws)
  pub words : WordsIn (length new.cells) new.next (drop k ws)
  pub word : k ≤ length ws → (f : NameId) → 0 < k → WordIn (length new.cells) new.next (Comp k f (length s.cells))
  pub trees : k ≤ length ws → (f : NameId) → word_tree (base new) (Comp k f (length s.cells)) ∷ map (word_tree (base new)) (drop k ws) ≡ with_cell (C.Comp f k) (map (word_tree (base s)) ws)

pub block_made : (s : State) (ws : List Word) (k : ℕ) → IsStore s → WordsIn (length s.cells) s.next ws → BlockMade s (with_more s (take k ws) s.next) ws k
block_made s ws k st h =
    let more : List Word = take k ws in
    let here : WordsIn (length s.cells) s.next more = WordsIn-take (length s.cells) s.next k ws h in
    let within : WordsIn (length (base s)) s.next ws = subst (λ n. WordsIn n s.next ws) (sym (length-bases_nil s.cells)) h in
    let made : base (with_more s more s.next) ≡ base s ++ map (word_tree (base s)) more = bases-append [] s.cells more ∙ bases-words (base s) s.next more (WordsIn-take (length (base s)) s.next k ws within) in
    let rest : map (word_tree (base (with_more s more s.next))) (drop k ws) ≡ drop k (map (word_tree (base s)) ws) =
    ap (λ b. map (word_tree b) (drop k ws)) made ∙ (map-words (base s) (map (word_tree (base s)) more) s.next (drop k ws) (WordsIn-drop (length (base s)) s.next k ws within) ∙ sym (drop-map (word_tree (base s)) k ws)) in
    record {
      store = with_more-store s more s.next st (omega arith) (λ p l. WordsIn-at (length s.cells) s.next more p l here);
      grows = with_more-grows s more s.next st (omega arith);
      bases = made;
      words = WordsIn-more (length s.cells) s.next (length (s.cells ++ more)) s.next (drop k ws) (omega (arith, length-append s.cells more)) (omega arith) (WordsIn-drop (length s.cells) s.next k ws h);
      word = λ l f some. (omega (arith, length-append s.cells more, length-take-le k ws l), some);
      trees = λ l f.
          let count : length (map (word_tree (base s)) more) ≡ k = length-map more (word_tree (base s)) ∙ length-take-le k ws l in
          let args : take k (drop (length s.cells) (base (with_more s more s.next))) ≡ take k (map (word_tree (base s)) ws) =
          ap (λ b. take k (drop (length s.cells) b)) made
          ∙ (ap (take k) (drop_at (base s) (map (word_tree (base s)) more) (length s.cells) (length-bases_nil s.cells))
          ∙ (take_all k (map (word_tree (base s)) more) (omega arith) ∙ sym (take-map (word_tree (base s)) k ws))) in
          ap (λ ts. comp f.0 (trees ts) ∷ map (word_tree (base (with_more s more s.next))) (drop k ws)) args
          ∙ ap (λ ts. comp f.0 (trees (take k (map (word_tree (base s)) ws))) ∷ ts) rest;
    }

-- raising goes cell by cell
pub raise-with_cell : (n : ℕ) (c : Cell) (after : List (Tree ℕ)) → map (raise n) (with_cell c after) ≡ with_cell (raise_cell n c) (map (raise n) after)
raise-with_cell n (C.Var m) after = refl
raise-with_cell n (C.Int m) after = refl
raise-with_cell n (C.Name m) after = refl
raise-with_cell n (C.Comp f k) after =
    ap (λ t. comp f.0 t ∷ map (raise n) (drop k after)) (trees-raise n (take k after) ∙ ap trees (sym (take-map (raise n) k after)))
    ∙ ap (λ ts. comp f.0 (trees (take k (map (raise n) after))) ∷ ts) (sym (drop-map (raise n) k after))

pub next_after-cons : (n next : ℕ) (c : Cell) (cs : List Cell) → next_after n next (c ∷ cs) ≡ next_after n (next_after n next cs) (c ∷ [])
next_after-cons n next (C.Var m) cs = refl
next_after-cons n next (C.Int m) cs = refl
next_after-cons n next (C.Name m) cs = refl
next_after-cons n next (C.Comp f k) cs = refl

-- no raised number is far above the next one
pub NewInOrder-at : (n next : ℕ) (cs : List Cell) (i m : ℕ) (d : Cell) → i < length cs → get_or cs i d ≡ C.Var m → NewInOrder n next cs → m + n ≤ next + i
NewInOrder-at n next [] i m d l e h = absurd (omega arith)
NewInOrder-at n next (c ∷ cs) zero m d l e h = let g = subst (λ x. NewInOrder n next (x ∷ cs)) e h in omega (arith, g.0)
NewInOrder-at n next (C.Var j ∷ cs) (suc i) m d l e h = omega (arith, NewInOrder-at n (max next (j + n + 1)) cs i m d (omega arith) e h.1, h.0)
NewInOrder-at n next (C.Int j ∷ cs) (suc i) m d l e h = omega (arith, NewInOrder-at n next cs i m d (omega arith) e h)
NewInOrder-at n next (C.Name j ∷ cs) (suc i) m d l e h = omega (arith, NewInOrder-at n next cs i m d (omega arith) e h)
NewInOrder-at n next (C.Comp f k ∷ cs) (suc i) m d l e h = omega (arith, NewInOrder-at n next cs i m d (omega arith) e h)

-- the next of a list goes over
pub drop_head : (m : ℕ) (xs rest : List Word) (w : Word) → drop m xs ≡ w ∷ rest → (take (m + 1) xs ≡ take m xs ++ w ∷ []) × (drop (m + 1) xs ≡ rest)
drop_head zero [] rest w e = cc
drop_head zero (x ∷ xs) rest w e =
    let h : x ≡ w = cc in
    let t : xs ≡ rest = cc in
    (ap (λ y. y ∷ []) h, t)
drop_head (suc m) [] rest w e = cc
drop_head (suc m) (x ∷ xs) rest w e =
    let r = drop_head m xs rest w e in
    let n : suc m + 1 ≡ suc (m + 1) = omega arith in
    rw n (ap (λ ys. x ∷ ys) r.0, r.1)

pub reverse-word : (ws : List Word) (w : Word) → reverse (ws ++ w ∷ []) ≡ w ∷ reverse ws
reverse-word ws w = reverse-append ws (w ∷ [])

pub word_trees-push : (s : State) (ws : List Word) (w : Word) → word_trees s (ws ++ w ∷ []) ≡ word_tree (base s) w ∷ word_trees s ws
word_trees-push s ws w = ap (map (word_tree (base s))) (reverse-word ws w)

-- a state that only has more variables
pub word_trees-grown : (s new : State) (ws : List Word) → new.cells ≡ s.cells → word_trees new ws ≡ word_trees s ws
word_trees-grown s new ws e = ap (λ cs. map (word_tree (bases [] cs)) (reverse ws)) e

pub WordsIn-grown : (s new : State) (ws : List Word) → Grows s new → WordsIn (length s.cells) s.next ws → WordsIn (length new.cells) new.next ws
WordsIn-grown s new ws g h = WordsIn-more (length s.cells) s.next (length new.cells) new.next ws g.extends.more_cells g.extends.next h

-- the one word of a term gets a place
pub record PlaceMade (s new : State) (ws : List Word) : Type 0 where
  pub tree : tree_at new (record { 0 = length s.cells }) ≡ apply (bound s) (first_tree (map (word_tree (base s)) ws))

pub place_made : (s : State) (ws : List Word) → IsStore s → WordsIn (length s.cells) s.next ws → 0 < length ws → PlaceMade s (with_more s (take 1 ws) s.next) ws
place_made s [] st h l = absurd (omega arith)
place_made s (w ∷ ws) st h l =
    let b : BlockMade s (with_more s (take 1 (w ∷ ws)) s.next) (w ∷ ws) 1 = block_made s (w ∷ ws) 1 st h in
    record {
      tree = ap (λ x. apply x (get_or (base (with_more s (w ∷ []) s.next)) (length s.cells) (var 0))) (with_more-bound s (w ∷ []) s.next st)
          ∙ ap (λ x. apply (bound s) x) (ap (λ x. get_or x (length s.cells) (var 0)) b.bases ∙ get_or_push (base s) (word_tree (base s) w) (var 0) (length s.cells) (length-bases_nil s.cells));
    }

pub OnOk-map : {E : Type 0} (r : Result (Unit {0}) E) (P Q : Type 0) → (P → Q) → OnOk r P → OnOk r Q
OnOk-map (Ok x) P Q f h = f h
OnOk-map (Err e) P Q f h = h

pub WordsIn-push : (c n : ℕ) (ws new : List Word) (w : Word) → new ≡ ws ++ w ∷ [] → WordIn c n w → WordsIn c n (reverse ws) → WordsIn c n (reverse new)
WordsIn-push c n ws new w e h g = subst (WordsIn c n) (sym (ap reverse e ∙ reverse-word ws w)) (h, g)

pub length-word_trees : (s : State) (ws : List Word) → length (word_trees s ws) ≡ length ws
length-word_trees s ws = length-map (reverse ws) (word_tree (base s)) ∙ length-reverse ws

-- a cell of a term may be added once those behind it are
pub cell_allowed : (n next words i : ℕ) (cs : List Cell) (c d : Cell) → i < length cs → get_or cs i d ≡ c → NewInOrder n next cs → Enough cs → next < 2 ^ 63 → length cs < 2 ^ 63
    → words ≡ length (build (drop (i + 1) cs)) → IsCell c → CellAllowed n words c
cell_allowed n next words i cs (C.Var m) d l e h enough small short count some = omega (arith, NewInOrder-at n next cs i m d l e h)
cell_allowed n next words i cs (C.Int m) d l e h enough small short count some = tt
cell_allowed n next words i cs (C.Name m) d l e h enough small short count some = tt
cell_allowed n next words i cs (C.Comp f k) d l e h enough small short count some =
    let at : drop i cs ≡ C.Comp f k ∷ drop (i + 1) cs = drop_more cs i d l ∙ ap (λ c. c ∷ drop (i + 1) cs) e in
    let here : Enough (C.Comp f k ∷ drop (i + 1) cs) = subst Enough at (Enough-drop i cs enough) in
    (omega (arith, here.0), some)

-- one cell further
pub record Further (n : ℕ) (s0 s : State) (ws : List Word) (i : ℕ) (cs : List Cell) : Type 0 where
  pub trees : word_trees s ws ≡ map (raise n) (build (drop i cs))
  pub next : s.next ≡ next_after n s0.next (drop i cs)

pub further : (n : ℕ) (s0 s new : State) (ws ws' : List Word) (i : ℕ) (cs : List Cell) (c d : Cell) → i < length cs → get_or cs i d ≡ c → Further n s0 s ws (i + 1) cs
    → word_trees new ws' ≡ with_cell (raise_cell n c) (word_trees s ws) → new.next ≡ next_after n s.next (c ∷ []) → Further n s0 new ws' i cs
further n s0 s new ws ws' i cs c d l e h trees next =
    let at : drop i cs ≡ c ∷ drop (i + 1) cs = drop_more cs i d l ∙ ap (λ x. x ∷ drop (i + 1) cs) e in
    record {
      trees = trees ∙ (ap (with_cell (raise_cell n c)) h.trees ∙ (sym (raise-with_cell n c (build (drop (i + 1) cs))) ∙ ap (λ xs. map (raise n) (build xs)) (sym at)));
      next = next ∙ (ap (λ k. next_after n k (c ∷ [])) h.next ∙ (sym (next_after-cons n s0.next c (drop (i + 1) cs)) ∙ ap (next_after n s0.next) (sym at)));
    }

pub IfOk-map : {T E : Type 0} (r : Result T E) (P Q : T → Type 0) → ((x : T) → P x → Q x) → IfOk r P → IfOk r Q
IfOk-map (Ok x) P Q f h = f x h
IfOk-map (Err e) P Q f h = h
