-- Code that is made from a term.
use Rattle.std.proofs.Common.{◌≡◌, ℕ, zero, suc, ◌+◌, ◌-◌, ◌<◌, ◌≤◌, List, [], ◌∷◌, ◌++◌, take, drop, length, get_or, refl, ap, ◌∙◌, sym, subst, arith, map, reverse, ◌⊎◌, inl, inr}
use Rattle.std.proofs.lemmas.List.{length_push, length-append, length-map, length-take-le, reverse-append, get_or_append_left, get_or-append_right, get_or-take, get_or-drop, length-drop, map-append, take-map, drop-map, drop_more, get_or_push}
use Rattle.std.proofs.lemmas.Bool.{cases_lt}
use Rattle.pl_atoms.specs.declared.names.NameId.{NameId}
use Rattle.pl_terms.specs.declared.cell.Cell.{Cell}
use Rattle.pl_terms.specs.declared.cell.Cell.TheVariants as C
use Rattle.pl_terms.specs.Cells.{IsCell}
use Rattle.pl_unify.specs.Prefix.{Has, trees, build, with_cell}
use Rattle.pl_terms.specs.Trees.{Tree, var, comp}
use Rattle.pl_unify.proofs.PrefixLaws.{Enough, Enough-drop}
use Rattle.pl_unify.specs.declared.word.Word.{Word}
use Rattle.pl_unify.specs.declared.word.Word.TheVariants as W
use Rattle.pl_unify.specs.declared.code.CodeWord.{CodeWord}
use Rattle.pl_unify.specs.declared.code.CodeWord.TheVariants.{Var, Int, Name, Comp}
use Rattle.pl_unify.specs.Words.{word_tree, bases, WordIn}
use Rattle.pl_unify.specs.State.{State, IsStore}
use Rattle.pl_unify.specs.Load.{WordsIn}
use Rattle.pl_unify.specs.declared.word.View.{View}
use Rattle.pl_unify.specs.declared.word.View.TheVariants as V
use Rattle.pl_unify.specs.Shape.{root, arity, argument}
use Rattle.pl_unify.specs.Code.{plain, no_code, code_base, code_tree, last_tree, From, Closed, CodeIn, IsCode, VarsBelow, start_of, piece_words}
use Rattle.pl_unify.specs.Coding.{Segments, PiecesIn, Coded, piece_trees}
use Rattle.pl_unify.proofs.Adds.{with_more}
use Rattle.pl_unify.proofs.Grown.{length-bases_nil, bases-push}
use Rattle.pl_unify.proofs.Loading.{BlockMade, block_made}
use Rattle.pl_unify.proofs.Shapes.{count-trees, nth_tree-trees}
use Rattle.pl_unify.proofs.Building.{plain-at, plain-in, code_tree-at}

map-map : {X Y Z : Type 0} (f : Y → Z) (g : X → Y) (xs : List X) → map f (map g xs) ≡ map (λ x. f (g x)) xs
map-map f g [] = refl
map-map f g (x ∷ xs) = ap (λ r. f (g x) ∷ r) (map-map f g xs)

-- the code as a state without bindings
abbrev pub code_state : List CodeWord → ℕ → State
code_state ws vars = record { cells = map plain ws; links = []; next = vars }

code_store : (ws : List CodeWord) (vars : ℕ) → IsCode ws vars → IsStore (code_state ws vars)
code_store ws vars code = record {
  cells_in = λ p l.
      let h : p < length ws = omega (arith, length-map ws plain) in
      subst (WordIn p vars) (sym (plain-at ws p h)) (plain-in ws vars p (get_or ws p no_code) (code.words_in p h));
  links_in = λ i l. absurd (omega arith);
  links_ok = λ i l. absurd (omega arith);
}

abbrev store_words : List (CodeWord × ℕ) → List Word
store_words ps = map (λ p. plain p.0) ps

words-in : (ws : List CodeWord) (vars : ℕ) (ps : List (CodeWord × ℕ)) → PiecesIn ws vars ps → WordsIn (length ws) vars (store_words ps)
words-in ws vars [] h = tt
words-in ws vars (p ∷ ps) h = (plain-in ws vars (length ws) p.0 h.0, words-in ws vars ps h.1)

Closed-more : (ws more : List CodeWord) (a b : ℕ) → b ≤ length ws → Closed ws a b → Closed (ws ++ more) a b
Closed-more ws more a b h c = λ q f l. subst (From a) (sym (get_or_append_left ws more no_code q (omega arith))) (c q f l)

CodeIn-more : (ws more : List CodeWord) (vars p p' : ℕ) (w : CodeWord) → p ≤ p' → p ≤ length ws → CodeIn ws vars p w → CodeIn (ws ++ more) vars p' w
CodeIn-more ws more vars p p' (Var n) h l c = c
CodeIn-more ws more vars p p' (Int n) h l c = tt
CodeIn-more ws more vars p p' (Name n) h l c = tt
CodeIn-more ws more vars p p' (Comp k f first from) h l c = (c.0, omega (arith, c.1), Closed-more ws more from (first + k) (omega (arith, c.1)) c.2, c.3)

From-lower : (a b : ℕ) (w : CodeWord) → a ≤ b → From b w → From a w
From-lower a b (Var n) h f = tt
From-lower a b (Int n) h f = tt
From-lower a b (Name n) h f = tt
From-lower a b (Comp k g first from) h f = omega arith

PiecesIn-more : (ws more : List CodeWord) (vars : ℕ) (ps : List (CodeWord × ℕ)) → PiecesIn ws vars ps → PiecesIn (ws ++ more) vars ps
PiecesIn-more ws more vars [] h = tt
PiecesIn-more ws more vars (p ∷ ps) h = (CodeIn-more ws more vars (length ws) (length (ws ++ more)) p.0 (omega (arith, length-append ws more)) (omega arith) h.0, PiecesIn-more ws more vars ps h.1)

PiecesIn-drop : (ws : List CodeWord) (vars k : ℕ) (ps : List (CodeWord × ℕ)) → PiecesIn ws vars ps → PiecesIn ws vars (drop k ps)
PiecesIn-drop ws vars zero ps h = h
PiecesIn-drop ws vars (suc k) [] h = tt
PiecesIn-drop ws vars (suc k) (p ∷ ps) h = PiecesIn-drop ws vars k ps h.1

Segments-more : (ws more : List CodeWord) (end : ℕ) (ps : List (CodeWord × ℕ)) → end ≤ length ws → Segments ws end ps → Segments (ws ++ more) end ps
Segments-more ws more end [] l h = tt
Segments-more ws more end (p ∷ ps) l h = (h.0, Closed-more ws more p.1 end l h.1, h.2, Segments-more ws more p.1 ps (omega (arith, h.0)) h.3)

-- the first k pieces stand in one range
record Front (ws : List CodeWord) (end k : ℕ) (ps : List (CodeWord × ℕ)) : Type 0 where
  low : start_of k end ps ≤ end
  closed : Closed ws (start_of k end ps) end
  froms : (i : ℕ) → i < k → i < length ps → From (start_of k end ps) (get_or (piece_words ps) i no_code)
  rest : Segments ws (start_of k end ps) (drop k ps)

front : (ws : List CodeWord) (end k : ℕ) (ps : List (CodeWord × ℕ)) → Segments ws end ps → Front ws end k ps
front ws end zero ps h = record { low = omega arith; closed = λ q f l. absurd (omega arith); froms = λ i l m. absurd (omega arith); rest = h }
front ws end (suc k) [] h = record { low = omega arith; closed = λ q f l. absurd (omega arith); froms = λ i l m. absurd (omega arith); rest = tt }
front ws end (suc k) (p ∷ ps) h =
    let r : Front ws p.1 k ps = front ws p.1 k ps h.3 in
    record {
      low = omega (arith, r.low, h.0);
      closed = λ q f l. both q f l r (cases_lt q p.1);
      froms = λ i l m. first i l m r;
      rest = r.rest;
    }
  where
    both : (q : ℕ) → start_of k p.1 ps ≤ q → q < end → Front ws p.1 k ps → (q < p.1) ⊎ (p.1 ≤ q) → From (start_of k p.1 ps) (get_or ws q no_code)
    both q f l r (inl m) = r.closed q f m
    both q f l r (inr m) = From-lower (start_of k p.1 ps) p.1 (get_or ws q no_code) r.low (h.1 q m l)

    first : (i : ℕ) → i < suc k → i < length (p ∷ ps) → Front ws p.1 k ps → From (start_of k p.1 ps) (get_or (piece_words (p ∷ ps)) i no_code)
    first zero l m r = From-lower (start_of k p.1 ps) p.1 p.0 r.low h.2
    first (suc i) l m r = r.froms i (omega arith) (omega arith)

-- a piece of one word
pub leaf_coded : (ws : List CodeWord) (vars : ℕ) (ps : List (CodeWord × ℕ)) (w : CodeWord) → CodeIn ws vars (length ws) w → From (length ws) w → Coded ws vars ps → Coded ws vars ((w, length ws) ∷ ps)
leaf_coded ws vars ps w c f k = record {
  code = k.code;
  pieces = (c, k.pieces);
  segments = (omega arith, λ q a l. absurd (omega arith), f, k.segments);
}

piece-in : (ws more : List CodeWord) (vars k : ℕ) (ps : List (CodeWord × ℕ)) (i p : ℕ) → PiecesIn ws vars ps → i < length (piece_words (take k ps)) → length ws ≤ p
    → CodeIn (ws ++ more) vars p (get_or (piece_words (take k ps)) i no_code)
piece-in ws more vars zero ps i p h l m = absurd (omega arith)
piece-in ws more vars (suc k) [] i p h l m = absurd (omega arith)
piece-in ws more vars (suc k) (q ∷ ps) zero p h l m = CodeIn-more ws more vars (length ws) p q.0 m (omega arith) h.0
piece-in ws more vars (suc k) (q ∷ ps) (suc i) p h l m = piece-in ws more vars k ps i p h.1 (omega arith) m

-- words put behind the code
pub pushed_code : (ws : List CodeWord) (vars k : ℕ) (ps : List (CodeWord × ℕ)) → IsCode ws vars → PiecesIn ws vars ps → IsCode (ws ++ piece_words (take k ps)) vars
pushed_code ws vars k ps code h = record {
  small = code.small;
  words_in = λ p l. go p l (cases_lt p (length ws));
}
  where
    go : (p : ℕ) → p < length (ws ++ piece_words (take k ps)) → (p < length ws) ⊎ (length ws ≤ p) → CodeIn (ws ++ piece_words (take k ps)) vars p (get_or (ws ++ piece_words (take k ps)) p no_code)
    go p l (inl m) =
        subst (CodeIn (ws ++ piece_words (take k ps)) vars p) (sym (get_or_append_left ws (piece_words (take k ps)) no_code p m))
        (CodeIn-more ws (piece_words (take k ps)) vars p p (get_or ws p no_code) (omega arith) (omega arith) (code.words_in p m))
    go p l (inr m) =
        subst (CodeIn (ws ++ piece_words (take k ps)) vars p) (sym (get_or-append_right ws (piece_words (take k ps)) (length ws) p no_code refl m))
        (piece-in ws (piece_words (take k ps)) vars k ps (p - length ws) p h (omega (arith, length-append ws (piece_words (take k ps)))) m)

length-front : (k : ℕ) (ps : List (CodeWord × ℕ)) → k ≤ length ps → length (piece_words (take k ps)) ≡ k
length-front k ps h = length-map (take k ps) (λ p. p.0) ∙ length-take-le k ps h

front-at : (k : ℕ) (ps : List (CodeWord × ℕ)) (i : ℕ) → i < k → get_or (piece_words (take k ps)) i no_code ≡ get_or (piece_words ps) i no_code
front-at k ps i h = ap (λ ws. get_or ws i no_code) (sym (take-map (λ p. p.0) k ps)) ∙ get_or-take k (piece_words ps) i no_code h

-- the last pieces become a compound's arguments
pub comp_coded : (ws : List CodeWord) (vars k : ℕ) (f : NameId) (ps : List (CodeWord × ℕ)) → k ≤ length ps → 0 < k → Coded ws vars ps
    → Coded (ws ++ piece_words (take k ps)) vars ((Comp k f (length ws) (start_of k (length ws) ps), start_of k (length ws) ps) ∷ drop k ps)
comp_coded ws vars k f ps h some c =
    let more : List CodeWord = piece_words (take k ps) in
    let from : ℕ = start_of k (length ws) ps in
    let fr : Front ws (length ws) k ps = front ws (length ws) k ps c.segments in
    let count : length (ws ++ more) ≡ length ws + k = omega (arith, length-append ws more, length-front k ps h) in
    let closed : Closed (ws ++ more) from (length ws + k) = λ q a l. go fr q a l (cases_lt q (length ws)) in
    record {
      code = pushed_code ws vars k ps c.code c.pieces;
      pieces = ((fr.low, omega arith, closed, some), PiecesIn-more ws more vars (drop k ps) (PiecesIn-drop ws vars k ps c.pieces));
      segments = (omega (arith, fr.low), subst (Closed (ws ++ more) from) (sym count) closed, omega arith, Segments-more ws more from (drop k ps) fr.low fr.rest);
    }
  where
    go : Front ws (length ws) k ps → (q : ℕ) → start_of k (length ws) ps ≤ q → q < length ws + k → (q < length ws) ⊎ (length ws ≤ q) → From (start_of k (length ws) ps) (get_or (ws ++ piece_words (take k ps)) q no_code)
    go fr q a l (inl m) = subst (From (start_of k (length ws) ps)) (sym (get_or_append_left ws (piece_words (take k ps)) no_code q m)) (fr.closed q a m)
    go fr q a l (inr m) =
        let i : ℕ = q - length ws in
        subst (From (start_of k (length ws) ps)) (sym (get_or-append_right ws (piece_words (take k ps)) (length ws) q no_code refl m ∙ front-at k ps i (omega arith))) (fr.froms i (omega arith) (omega arith))

pub comp_trees : (ws : List CodeWord) (vars k : ℕ) (f : NameId) (ps : List (CodeWord × ℕ)) (from : ℕ) → k ≤ length ps → Coded ws vars ps
    → piece_trees (ws ++ piece_words (take k ps)) ((Comp k f (length ws) from, from) ∷ drop k ps) ≡ with_cell (C.Comp f k) (piece_trees ws ps)
comp_trees ws vars k f ps from h c =
    let s : State = code_state ws vars in
    let words : List Word = store_words ps in
    let count : length (map plain ws) ≡ length ws = length-map ws plain in
    let within : WordsIn (length (map plain ws)) vars words = subst (λ n. WordsIn n vars words) (sym count) (words-in ws vars ps c.pieces) in
    let b : BlockMade s (with_more s (take k words) vars) words k = block_made s words k (code_store ws vars c.code) within in
    let same : map plain (ws ++ piece_words (take k ps)) ≡ map plain ws ++ take k words =
    map-append plain ws (piece_words (take k ps)) ∙ ap (λ x. map plain ws ++ x) (map-map plain (λ p. p.0) (take k ps) ∙ sym (take-map (λ p. plain p.0) k ps)) in
    let B : List (Tree ℕ) = bases [] (map plain ws ++ take k words) in
    let made : word_tree B (W.Comp k f (length (map plain ws))) ∷ map (word_tree B) (drop k words) ≡ with_cell (C.Comp f k) (map (word_tree (code_base ws)) words) = b.trees (omega (arith, length-map ps (λ p. plain p.0))) f in
    let rest : map (word_tree B) (drop k words) ≡ map (λ p. word_tree B (plain p.0)) (drop k ps) = ap (map (word_tree B)) (drop-map (λ p. plain p.0) k ps) ∙ map-map (word_tree B) (λ p. plain p.0) (drop k ps) in
    ap (λ cs. word_tree (bases [] cs) (W.Comp k f (length ws)) ∷ map (λ p. word_tree (bases [] cs) (plain p.0)) (drop k ps)) same
    ∙ (ap (λ n. word_tree B (W.Comp k f n) ∷ map (λ p. word_tree B (plain p.0)) (drop k ps)) (sym count)
    ∙ (ap (λ ts. word_tree B (W.Comp k f (length (map plain ws))) ∷ ts) (sym rest)
    ∙ (made ∙ ap (with_cell (C.Comp f k)) (map-map (word_tree (code_base ws)) (λ p. plain p.0) ps))))

-- the next of a list of pieces goes over
pub piece_head : (m end : ℕ) (ps rest : List (CodeWord × ℕ)) (w : CodeWord) (st : ℕ) → drop m ps ≡ (w, st) ∷ rest
    → (piece_words (take (m + 1) ps) ≡ piece_words (take m ps) ++ w ∷ []) × (drop (m + 1) ps ≡ rest) × (start_of (m + 1) end ps ≡ st)
piece_head zero end [] rest w st e = cc
piece_head zero end (p ∷ ps) rest w st e =
    let h : p ≡ (w, st) = cc in
    let t : ps ≡ rest = cc in
    (ap (λ x. x.0 ∷ []) h, t, ap (λ x. x.1) h)
piece_head (suc m) end [] rest w st e = cc
piece_head (suc m) end (p ∷ ps) rest w st e =
    let r = piece_head m p.1 ps rest w st e in
    let n : suc m + 1 ≡ suc (m + 1) = omega arith in
    rw n (ap (λ ys. p.0 ∷ ys) r.0, r.1, r.2)

pub reverse-piece : (ps : List (CodeWord × ℕ)) (p : CodeWord × ℕ) → reverse (ps ++ p ∷ []) ≡ p ∷ reverse ps
reverse-piece ps p = reverse-append ps (p ∷ [])

pub vars_at : (vars : ℕ) (cs : List Cell) (i : ℕ) (c d : Cell) → i < length cs → get_or cs i d ≡ c → VarsBelow vars cs → VarsBelow vars (c ∷ [])
vars_at vars [] i c d l e h = absurd (omega arith)
vars_at vars (x ∷ cs) zero c d l e h = subst (λ y. VarsBelow vars (y ∷ [])) e (one x h)
  where
    one : (x : Cell) → VarsBelow vars (x ∷ cs) → VarsBelow vars (x ∷ [])
    one (C.Var n) h = (h.0, tt)
    one (C.Int n) h = tt
    one (C.Name n) h = tt
    one (C.Comp f k) h = tt
vars_at vars (C.Var n ∷ cs) (suc i) c d l e h = vars_at vars cs i c d (omega arith) e h.1
vars_at vars (C.Int n ∷ cs) (suc i) c d l e h = vars_at vars cs i c d (omega arith) e h
vars_at vars (C.Name n ∷ cs) (suc i) c d l e h = vars_at vars cs i c d (omega arith) e h
vars_at vars (C.Comp f k ∷ cs) (suc i) c d l e h = vars_at vars cs i c d (omega arith) e h

pub has_at : (cs : List Cell) (i n : ℕ) (c d : Cell) → i < length cs → get_or cs i d ≡ c → Enough cs → n ≡ length (build (drop (i + 1) cs)) → IsCell c → Has c n
has_at cs i n (C.Var m) d l e h k some = tt
has_at cs i n (C.Int m) d l e h k some = tt
has_at cs i n (C.Name m) d l e h k some = tt
has_at cs i n (C.Comp f j) d l e h k some =
    let at : drop i cs ≡ C.Comp f j ∷ drop (i + 1) cs = drop_more cs i d l ∙ ap (λ c. c ∷ drop (i + 1) cs) e in
    let here : Enough (C.Comp f j ∷ drop (i + 1) cs) = subst Enough at (Enough-drop i cs h) in
    (omega (arith, here.0), some)

-- the one piece of a term is put last
pub root_tree : (ws : List CodeWord) (w : CodeWord) → last_tree (ws ++ w ∷ []) ≡ word_tree (code_base ws) (plain w)
root_tree ws w =
    let count : length (ws ++ w ∷ []) - 1 ≡ length (bases [] (map plain ws)) = omega (arith, length_push ws w, length-bases_nil (map plain ws), length-map ws plain) in
    ap (λ cs. get_or (bases [] cs) (length (ws ++ w ∷ []) - 1) (var 0)) (map-append plain ws (w ∷ []))
    ∙ (ap (λ ts. get_or ts (length (ws ++ w ∷ []) - 1) (var 0)) (bases-push (map plain ws) (plain w))
    ∙ get_or_push (bases [] (map plain ws)) (word_tree (code_base ws) (plain w)) (var 0) (length (ws ++ w ∷ []) - 1) (sym count))

-- the arguments of a compound stand from its first one on
pub record Arguments (ws : List CodeWord) (p first : ℕ) : Type 0 where
  pub fits : first + arity (code_tree ws p) ≤ length ws
  pub trees : (i : ℕ) → i < arity (code_tree ws p) → code_tree ws (first + i) ≡ argument (code_tree ws p) i

pub arguments_of : (ws : List CodeWord) (vars p k : ℕ) (f : NameId) (first from : ℕ) → IsCode ws vars → p < length ws → Comp k f first from ≡ get_or ws p no_code → Arguments ws p first
arguments_of ws vars p k f first from code h e =
    let within : CodeIn ws vars p (Comp k f first from) = subst (CodeIn ws vars p) (sym e) (code.words_in p h) in
    let C : List (Tree ℕ) = code_base ws in
    let is : code_tree ws p ≡ comp f.0 (trees (take k (drop first C))) = code_tree-at ws vars p code h ∙ ap (λ w. word_tree C (plain w)) (sym e) in
    let room : first + k ≤ length C = omega (arith, within.1, length-bases_nil (map plain ws), length-map ws plain) in
    let count : arity (code_tree ws p) ≡ k = ap arity is ∙ (count-trees (take k (drop first C)) ∙ length-take-le k (drop first C) (omega (arith, length-drop first C))) in
    record {
      fits = omega (arith, within.1);
      trees = λ i l.
          sym (ap (λ t. argument t i) is ∙ (nth_tree-trees (take k (drop first C)) i ∙ (get_or-take k (drop first C) i (var 0) (omega arith) ∙ get_or-drop first C i (var 0))));
    }

pub no_arguments : (ws : List CodeWord) (vars p : ℕ) (w : CodeWord) → IsCode ws vars → p < length ws → w ≡ get_or ws p no_code
    → ((k : ℕ) (f : NameId) (first from : ℕ) → w ≡ Comp k f first from → ⊥) → arity (code_tree ws p) ≡ 0
no_arguments ws vars p w code h e other = ap arity (code_tree-at ws vars p code h ∙ ap (λ x. word_tree (code_base ws) (plain x)) (sym e)) ∙ go w other
  where
    go : (x : CodeWord) → ((k : ℕ) (f : NameId) (first from : ℕ) → x ≡ Comp k f first from → ⊥) → arity (word_tree (code_base ws) (plain x)) ≡ 0
    go (Var n) o = refl
    go (Int n) o = refl
    go (Name n) o = refl
    go (Comp k f first from) o = absurd (o k f first from refl)

-- the root's word goes last
pub root_code : (ws : List CodeWord) (vars : ℕ) (w : CodeWord) (st : ℕ) (ps : List (CodeWord × ℕ)) → ps ≡ (w, st) ∷ [] → Coded ws vars ps → IsCode (ws ++ w ∷ []) vars
root_code ws vars w st ps e c = subst (λ q. IsCode (ws ++ piece_words (take 1 q)) vars) e (pushed_code ws vars 1 ps c.code c.pieces)

pub arity_of : (ws : List CodeWord) (vars p k : ℕ) (f : NameId) (first from : ℕ) → IsCode ws vars → p < length ws → Comp k f first from ≡ get_or ws p no_code → arity (code_tree ws p) ≡ k
arity_of ws vars p k f first from code h e =
    let within : CodeIn ws vars p (Comp k f first from) = subst (CodeIn ws vars p) (sym e) (code.words_in p h) in
    let C : List (Tree ℕ) = code_base ws in
    let is : code_tree ws p ≡ comp f.0 (trees (take k (drop first C))) = code_tree-at ws vars p code h ∙ ap (λ w. word_tree C (plain w)) (sym e) in
    ap arity is ∙ (count-trees (take k (drop first C)) ∙ length-take-le k (drop first C) (omega (arith, length-drop first C, within.1, length-bases_nil (map plain ws), length-map ws plain)))

-- the root of the tree of a place is seen from its word
abbrev pub seen : CodeWord → View
seen (Var n) = V.Var n
seen (Int z) = V.Int z
seen (Name a) = V.Name a
seen (Comp k f first from) = V.Comp f k

pub root_seen : (ws : List CodeWord) (vars p : ℕ) (w : CodeWord) → IsCode ws vars → p < length ws → w ≡ get_or ws p no_code → seen w ≡ root (code_tree ws p)
root_seen ws vars p w code h e = go w e ∙ sym (ap root (code_tree-at ws vars p code h ∙ ap (λ x. word_tree (code_base ws) (plain x)) (sym e)))
  where
    go : (x : CodeWord) → x ≡ get_or ws p no_code → seen x ≡ root (word_tree (code_base ws) (plain x))
    go (Var n) i = refl
    go (Int z) i = refl
    go (Name a) i = refl
    go (Comp k f first from) i =
        let is : code_tree ws p ≡ word_tree (code_base ws) (plain (Comp k f first from)) = code_tree-at ws vars p code h ∙ ap (λ x. word_tree (code_base ws) (plain x)) (sym i) in
        ap (V.Comp f) (sym (arity_of ws vars p k f first from code h i) ∙ ap arity is)
