-- Code that is put into a store.
use Rattle.std.proofs.Common.{◌≡◌, ℕ, zero, suc, ◌+◌, ◌-◌, ◌<◌, ◌≤◌, List, [], ◌∷◌, ◌++◌, take, drop, length, get_or, refl, ap, ◌∙◌, sym, subst, arith, map, ◌⊎◌, inl, inr, add-zero, false, set}
use Rattle.std.proofs.lemmas.List.{length_push, length-append, length-map, length-take-le, length-drop, get_or-map, get_or-take, get_or-drop, get_or_append_left, get_or-append_right, drop_more, append_assoc, take_more, map-append}
use Rattle.std.proofs.lemmas.Bool.{cases_lt}
use Rattle.std.proofs.Math.Seq.{set-append_seam}
use Rattle.pl_atoms.specs.declared.names.NameId.{NameId}
use Rattle.pl_terms.specs.Trees.{Tree, var, comp}
use Rattle.unifier_model.specs.Substitution.{raise, occurs, apply}
use Rattle.pl_unify.specs.Prefix.{trees}
use Rattle.pl_unify.proofs.PrefixLaws.{trees-raise}
use Rattle.pl_unify.specs.declared.word.Word.{Word}
use Rattle.pl_unify.specs.declared.word.Word.TheVariants.{Var, Comp}
use Rattle.pl_unify.specs.declared.code.CodeWord.{CodeWord}
use Rattle.pl_unify.specs.declared.code.CodeWord.TheVariants as K
use Rattle.pl_unify.specs.Words.{word_tree, bases, no_word, IsFree, WordIn, link}
use Rattle.pl_unify.specs.State.{State, IsStore, base, bound, tree_of_word, links_of, IsStoreInside, Grows, Binds}
use Rattle.pl_unify.proofs.StoreLaws.{Extends-trans}
use Rattle.pl_unify.specs.Code.{plain, no_code, code_base, code_tree, IsCode, CodeIn, Closed, From, RaisedBelow, placed, own_words}
use Rattle.pl_unify.specs.Match.{Born}
use Rattle.pl_unify.proofs.Grown.{length-bases_nil}
use Rattle.pl_unify.proofs.Follow.{inside}
use Rattle.pl_unify.proofs.Adds.{with_more, with_more-store, with_more-grows, links_of-append, one_var, WordIn-more}
use Rattle.pl_unify.proofs.Bound.{attach-inside, attach-binds, attach-links}
use Rattle.pl_unify.proofs.Loading.{VariableMade, variable_made}
use Rattle.pl_unify.proofs.Shapes.{get_or-bases}
use Rattle.pl_unify.proofs.Low.{absent-new, free-new}

pub plain-at : (ws : List CodeWord) (q : ℕ) → q < length ws → get_or (map plain ws) q no_word ≡ plain (get_or ws q no_code)
plain-at ws q h = get_or-map plain ws q no_code no_word h

pub plain-in : (ws : List CodeWord) (vars p : ℕ) (w : CodeWord) → CodeIn ws vars p w → WordIn p vars (plain w)
plain-in ws vars p (K.Var n) h = h
plain-in ws vars p (K.Int n) h = tt
plain-in ws vars p (K.Name n) h = tt
plain-in ws vars p (K.Comp k f first from) h = (h.1, h.3)

-- the tree of a place of code is that of its word
pub code_tree-at : (ws : List CodeWord) (vars q : ℕ) → IsCode ws vars → q < length ws → code_tree ws q ≡ word_tree (code_base ws) (plain (get_or ws q no_code))
code_tree-at ws vars q code h =
    let at : get_or (map plain ws) q no_word ≡ plain (get_or ws q no_code) = plain-at ws q h in
    let low : q < length (map plain ws) = omega (arith, length-map ws plain) in
    get_or-bases (map plain ws) q vars low (subst (WordIn q vars) (sym at) (plain-in ws vars q (get_or ws q no_code) (code.words_in q h)))
    ∙ ap (word_tree (code_base ws)) at

-- trees that are made from others, one by one
pub same_span : (g : Tree ℕ → Tree ℕ) (xs ys : List (Tree ℕ)) (a b k : ℕ) → a + k ≤ length xs → b + k ≤ length ys
    → ((i : ℕ) → i < k → get_or xs (a + i) (var 0) ≡ g (get_or ys (b + i) (var 0))) → take k (drop a xs) ≡ map g (take k (drop b ys))
same_span g xs ys a b zero h h2 e = refl
same_span g xs ys a b (suc k) h h2 e =
    let one : get_or xs a (var 0) ≡ g (get_or ys b (var 0)) = subst (λ n. get_or xs n (var 0) ≡ g (get_or ys b (var 0))) (add-zero a) (subst (λ n. get_or xs (a + 0) (var 0) ≡ g (get_or ys n (var 0))) (add-zero b) (e 0 (omega arith))) in
    let rest : take k (drop (a + 1) xs) ≡ map g (take k (drop (b + 1) ys)) =
    same_span g xs ys (a + 1) (b + 1) k (omega arith) (omega arith) (λ i l.
    let x : a + suc i ≡ (a + 1) + i = omega arith in
    let y : b + suc i ≡ (b + 1) + i = omega arith in
    subst (λ n. get_or xs n (var 0) ≡ g (get_or ys ((b + 1) + i) (var 0))) x (subst (λ n. get_or xs (a + suc i) (var 0) ≡ g (get_or ys n (var 0))) y (e (suc i) (omega arith)))) in
    ap (take (suc k)) (drop_more xs a (var 0) (omega arith))
    ∙ (ap (λ t. t ∷ take k (drop (a + 1) xs)) one
    ∙ (ap (λ ts. g (get_or ys b (var 0)) ∷ ts) rest
    ∙ sym (ap (λ z. map g (take (suc k) z)) (drop_more ys b (var 0) (omega arith)))))

placed-in : (ws : List CodeWord) (vars from at b top q : ℕ) (w : CodeWord) → CodeIn ws vars q w → From from w → RaisedBelow top b w → from ≤ q → WordIn (at + (q - from)) top (placed b from at w)
placed-in ws vars from at b top q (K.Var n) c f r h = r
placed-in ws vars from at b top q (K.Int n) c f r h = tt
placed-in ws vars from at b top q (K.Name n) c f r h = tt
placed-in ws vars from at b top q (K.Comp k g first start) c f r h = (omega (arith, c.0, c.1, f), c.3)

module _ (s : State) (st : IsStore s) (ws : List CodeWord) (vars from to b top : ℕ) (code : IsCode ws vars) (order : from ≤ to) (end : to ≤ length ws)
    (closed : Closed ws from to) (up : s.next ≤ top) (below : (i : ℕ) → from ≤ i → i < to → RaisedBelow top b (get_or ws i no_code)) where
  abbrev slice : List CodeWord
  slice = take (to - from) (drop from ws)

  abbrev pub moved : List Word
  moved = map (placed b from (length s.cells)) slice

  length-slice : length slice ≡ to - from
  length-slice = length-take-le (to - from) (drop from ws) (omega (arith, length-drop from ws))

  pub length-moved : length moved ≡ to - from
  length-moved = length-map slice (placed b from (length s.cells)) ∙ length-slice

  slice-at : (q : ℕ) → from ≤ q → q < to → get_or slice (q - from) no_code ≡ get_or ws q no_code
  slice-at q h l =
      let low : q - from < to - from = omega arith in
      let e : from + (q - from) ≡ q = omega arith in
      get_or-take (to - from) (drop from ws) (q - from) no_code low ∙ (get_or-drop from ws (q - from) no_code ∙ ap (λ n. get_or ws n no_code) e)

  moved-at : (q : ℕ) → from ≤ q → q < to → get_or moved (q - from) no_word ≡ placed b from (length s.cells) (get_or ws q no_code)
  moved-at q h l =
      let low : q - from < length slice = omega (arith, length-slice) in
      get_or-map (placed b from (length s.cells)) slice (q - from) no_code no_word low ∙ ap (placed b from (length s.cells)) (slice-at q h l)

  moved-in : (q : ℕ) → from ≤ q → q < to → WordIn (length s.cells + (q - from)) top (get_or moved (q - from) no_word)
  moved-in q h l =
      subst (WordIn (length s.cells + (q - from)) top) (sym (moved-at q h l))
      (placed-in ws vars from (length s.cells) b top q (get_or ws q no_code) (code.words_in q (omega arith)) (closed q h l) (below q h l) h)

  pub range-store : IsStore (with_more s moved top)
  range-store = with_more-store s moved top st up (λ p l.
      let e : (from + p) - from ≡ p = omega arith in
      let low : from + p < to = omega (arith, length-moved) in
      subst (λ n. WordIn (length s.cells + n) top (get_or moved n no_word)) e (moved-in (from + p) (omega arith) low))

  pub range-grows : Grows s (with_more s moved top)
  range-grows = with_more-grows s moved top st up

  cell-at : (q : ℕ) → from ≤ q → q < to → get_or (s.cells ++ moved) ((q - from) + length s.cells) no_word ≡ placed b from (length s.cells) (get_or ws q no_code)
  cell-at q h l =
      let e : ((q - from) + length s.cells) - length s.cells ≡ q - from = omega arith in
      get_or-append_right s.cells moved (length s.cells) ((q - from) + length s.cells) no_word refl (omega arith)
      ∙ (ap (λ n. get_or moved n no_word) e ∙ moved-at q h l)

  tree-step : (q : ℕ) (w : CodeWord) → q < to → CodeIn ws vars q w → From from w
      → ((i : ℕ) → i < q → from ≤ i → get_or (bases [] (s.cells ++ moved)) ((i - from) + length s.cells) (var 0) ≡ raise b (code_tree ws i))
      → word_tree (bases [] (s.cells ++ moved)) (placed b from (length s.cells) w) ≡ raise b (word_tree (code_base ws) (plain w))
  tree-step q (K.Var n) l c f ih = refl
  tree-step q (K.Int n) l c f ih = refl
  tree-step q (K.Name n) l c f ih = refl
  tree-step q (K.Comp k g first start) l c f ih =
      let B : List (Tree ℕ) = bases [] (s.cells ++ moved) in
      let C : List (Tree ℕ) = code_base ws in
      let a : ℕ = (first - from) + length s.cells in
      let room : a + k ≤ length B = omega (arith, length-bases_nil (s.cells ++ moved), length-append s.cells moved, length-moved, c.0, c.1, f) in
      let code_room : first + k ≤ length C = omega (arith, length-bases_nil (map plain ws), length-map ws plain, c.1) in
      let args : take k (drop a B) ≡ map (raise b) (take k (drop first C)) =
      same_span (raise b) B C a first k room code_room (λ i m.
      let e : ((first + i) - from) + length s.cells ≡ a + i = omega (arith, c.0, f) in
      subst (λ n. get_or B n (var 0) ≡ raise b (code_tree ws (first + i))) e (ih (first + i) (omega (arith, c.1)) (omega (arith, c.0, f)))) in
      ap (λ ts. comp g.0 (trees ts)) args ∙ ap (comp g.0) (sym (trees-raise b (take k (drop first C))))

  trees-below : (n q : ℕ) → q < n → from ≤ q → q < to → get_or (bases [] (s.cells ++ moved)) ((q - from) + length s.cells) (var 0) ≡ raise b (code_tree ws q)
  trees-below zero q h o l = absurd (omega arith)
  trees-below (suc n) q h o l =
      let p : ℕ = (q - from) + length s.cells in
      let low : p < length (s.cells ++ moved) = omega (arith, length-append s.cells moved, length-moved) in
      let at : get_or (s.cells ++ moved) p no_word ≡ placed b from (length s.cells) (get_or ws q no_code) = cell-at q o l in
      let w : CodeWord = get_or ws q no_code in
      let within : CodeIn ws vars q w = code.words_in q (omega arith) in
      let e : length s.cells + (q - from) ≡ p = omega arith in
      let here : WordIn p top (get_or (s.cells ++ moved) p no_word) =
      subst (WordIn p top) (sym at) (subst (λ m. WordIn m top (placed b from (length s.cells) w)) e (placed-in ws vars from (length s.cells) b top q w within (closed q o l) (below q o l) o)) in
      get_or-bases (s.cells ++ moved) p top low here
      ∙ (ap (word_tree (bases [] (s.cells ++ moved))) at
      ∙ (tree-step q w l within (closed q o l) (λ i m f. trees-below n i (omega arith) f (omega arith))
      ∙ ap (raise b) (sym (code_tree-at ws vars q code (omega arith)))))

  pub range-trees : (q : ℕ) → from ≤ q → q < to → get_or (base (with_more s moved top)) ((q - from) + length s.cells) (var 0) ≡ raise b (code_tree ws q)
  range-trees q h l = trees-below (q + 1) q (omega arith) h l

pub length-own : (n k : ℕ) → length (own_words n k) ≡ k
length-own n zero = refl
length-own n (suc k) = ap suc (length-own (n + 1) k)

own-at : (n k i : ℕ) → i < k → get_or (own_words n k) i no_word ≡ Var (n + i)
own-at n zero i h = absurd (omega arith)
own-at n (suc k) zero h = ap Var (sym (add-zero n))
own-at n (suc k) (suc i) h =
    let e : (n + 1) + i ≡ n + suc i = omega arith in
    own-at (n + 1) k i (omega arith) ∙ ap Var e

pub own-push : (n k : ℕ) → own_words n k ++ Var (n + k) ∷ [] ≡ own_words n (suc k)
own-push n zero = ap (λ m. Var m ∷ []) (add-zero n)
own-push n (suc k) =
    let e : n + suc k ≡ (n + 1) + k = omega arith in
    ap (λ m. Var n ∷ (own_words (n + 1) k ++ Var m ∷ [])) e ∙ ap (λ ws. Var n ∷ ws) (own-push (n + 1) k)

-- further places, and unbound variables up to a number
pub record RangeMade (cells vars more : List Word) (trail : List ℕ) (top : ℕ) : Type 0 where
  pub fields : IsStoreInside (cells ++ more) (vars ++ own_words (length vars) (top - length vars)) trail
  pub state : inside (cells ++ more) (vars ++ own_words (length vars) (top - length vars)) trail ≡ with_more (inside cells vars trail) more top

pub range_made : (cells vars more : List Word) (trail : List ℕ) (top : ℕ) → IsStoreInside cells vars trail → length vars ≤ top → IsStore (with_more (inside cells vars trail) more top) → RangeMade cells vars more trail top
range_made cells vars more trail top inv up st =
    let own : List Word = own_words (length vars) (top - length vars) in
    let same : links_of (vars ++ own) trail ≡ links_of vars trail = links_of-append cells vars own trail inv in
    let count : length (vars ++ own) ≡ top = omega (arith, length-append vars own, length-own (length vars) (top - length vars)) in
    let state : inside (cells ++ more) (vars ++ own) trail ≡ with_more (inside cells vars trail) more top = rw (same, count) in
    record {
      fields = record {
        store = rw state st;
        free = λ n l f. go n (omega arith) (subst (λ ls. IsFree n ls) same f) (cases_lt n (length vars));
      };
      state = state;
    }
  where
    go : (n : ℕ) → n < top → IsFree n (links_of vars trail) → (n < length vars) ⊎ (length vars ≤ n) → get_or (vars ++ own_words (length vars) (top - length vars)) n no_word ≡ Var n
    go n l f (inl h) = get_or_append_left vars (own_words (length vars) (top - length vars)) no_word n h ∙ inv.free n h f
    go n l f (inr h) =
        let e : length vars + (n - length vars) ≡ n = omega arith in
        get_or-append_right vars (own_words (length vars) (top - length vars)) (length vars) n no_word refl h
        ∙ (own-at (length vars) (top - length vars) (n - length vars) (omega arith) ∙ ap Var e)

-- one more variable, which is bound to a word from before it
pub record BornMade (cells vars : List Word) (trail : List ℕ) (w : Word) : Type 0 where
  pub fields : IsStoreInside cells (vars ++ w ∷ []) (trail ++ length vars ∷ [])
  pub links : links_of (vars ++ w ∷ []) (trail ++ length vars ∷ []) ≡ links_of vars trail ++ link (length vars) w ∷ []
  pub born : Born (inside cells vars trail) (inside cells (vars ++ w ∷ []) (trail ++ length vars ∷ [])) w

pub born_made : (cells vars : List Word) (trail : List ℕ) (w : Word) → IsStoreInside cells vars trail → WordIn (length cells) (length vars) w
    → ((m : ℕ) → w ≡ Var m → IsFree m (links_of vars trail)) → BornMade cells vars trail w
born_made cells vars trail w inv within ahead =
    let n : ℕ = length vars in
    let s : State = inside cells vars trail in
    let one : List Word = vars ++ one_var vars in
    let made : VariableMade cells vars trail = variable_made cells vars trail inv in
    let count : length one ≡ n + 1 = length_push vars (Var n) in
    let same : links_of one trail ≡ links_of vars trail = links_of-append cells vars (one_var vars) trail inv in
    let low : n < length one = omega arith in
    let free : IsFree n (links_of one trail) = subst (IsFree n) (sym same) (free-new s n inv.store (omega arith)) in
    let here : WordIn (length cells) (length one) w = WordIn-more (length cells) n (length cells) (length one) w (omega arith) (omega arith) within in
    let up : (m : ℕ) → w ≡ Var m → IsFree m (links_of one trail) = λ m e. subst (IsFree m) (sym same) (ahead m e) in
    let bounds : bound (inside cells one trail) ≡ bound s = made.grows.bound in
    let absent : occurs n (tree_of_word (inside cells one trail) w) ≡ false =
    subst (λ bs. occurs n (apply bs (word_tree (bases [] cells) w)) ≡ false) (sym bounds) (absent-new s w n inv.store (omega arith) within) in
    let seam : set one n w ≡ vars ++ w ∷ [] = set-append_seam vars (Var n) [] w in
    let binds : Binds (inside cells one trail) (inside cells (set one n w) (trail ++ n ∷ [])) n (tree_of_word (inside cells one trail) w) = attach-binds cells one trail n w made.fields low free here up absent in
    record {
      fields = subst (λ vs. IsStoreInside cells vs (trail ++ n ∷ [])) seam (attach-inside cells one trail n w made.fields low free here up absent);
      links = ap (λ vs. links_of vs (trail ++ n ∷ [])) (sym seam) ∙ (attach-links cells one trail n w made.fields low free here up absent ∙ ap (λ ls. ls ++ link n w ∷ []) same);
      born = subst (λ vs. Born s (inside cells vs (trail ++ n ∷ [])) w) seam (record {
        extends = Extends-trans s (inside cells one trail) (inside cells (set one n w) (trail ++ n ∷ [])) made.grows.extends binds.extends;
        cells = refl;
        next = binds.next ∙ count;
        bound = binds.bound ∙ (ap (λ bs. bs ++ (n, apply bs (word_tree (bases [] cells) w)) ∷ []) bounds);
      });
    }

-- one more word of a range is copied
pub copied : (cells0 cells new : List Word) (g : CodeWord → Word) (ws : List CodeWord) (from i : ℕ) (w : Word) → from ≤ i → i < length ws
    → cells ≡ cells0 ++ map g (take (i - from) (drop from ws)) → new ≡ cells ++ w ∷ [] → w ≡ g (get_or ws i no_code) → new ≡ cells0 ++ map g (take (i + 1 - from) (drop from ws))
copied cells0 cells new g ws from i w h l e f at =
    let k : ℕ = i - from in
    let low : k < length (drop from ws) = omega (arith, length-drop from ws) in
    let next : k + 1 ≡ i + 1 - from = omega arith in
    let here : from + k ≡ i = omega arith in
    let last : get_or (drop from ws) k no_code ≡ get_or ws i no_code = get_or-drop from ws k no_code ∙ ap (λ n. get_or ws n no_code) here in
    let more : take (k + 1) (drop from ws) ≡ take k (drop from ws) ++ get_or ws i no_code ∷ [] = take_more (drop from ws) k no_code low ∙ ap (λ c. take k (drop from ws) ++ c ∷ []) last in
    f ∙ (ap (λ cs. cs ++ w ∷ []) e ∙ (append_assoc cells0 (map g (take k (drop from ws))) (w ∷ [])
    ∙ ap (λ cs. cells0 ++ cs) (ap (λ x. map g (take k (drop from ws)) ++ x ∷ []) at
    ∙ (sym (map-append g (take k (drop from ws)) (get_or ws i no_code ∷ [])) ∙ ap (map g) (sym more ∙ ap (λ n. take n (drop from ws)) next)))))

RaisedBelow-more : (top top' b : ℕ) (w : CodeWord) → top ≤ top' → RaisedBelow top b w → RaisedBelow top' b w
RaisedBelow-more top top' b (K.Var n) h r = omega arith
RaisedBelow-more top top' b (K.Int n) h r = tt
RaisedBelow-more top top' b (K.Name n) h r = tt
RaisedBelow-more top top' b (K.Comp k f first from) h r = tt

pub raised_more : (ws : List CodeWord) (from i top top' b : ℕ) → top ≤ top' → ((k : ℕ) → from ≤ k → k < i → RaisedBelow top b (get_or ws k no_code)) → RaisedBelow top' b (get_or ws i no_code)
    → (k : ℕ) → from ≤ k → k < i + 1 → RaisedBelow top' b (get_or ws k no_code)
raised_more ws from i top top' b up below here k h l = go (cases_lt k i)
  where
    go : (k < i) ⊎ (i ≤ k) → RaisedBelow top' b (get_or ws k no_code)
    go (inl m) = RaisedBelow-more top top' b (get_or ws k no_code) up (below k h m)
    go (inr m) = let e : i ≡ k = omega arith in subst (λ n. RaisedBelow top' b (get_or ws n no_code)) e here

-- one more unbound variable
pub own_more : (vars0 vars new : List Word) → length vars0 ≤ length vars → vars ≡ vars0 ++ own_words (length vars0) (length vars - length vars0) → new ≡ vars ++ Var (length vars) ∷ []
    → new ≡ vars0 ++ own_words (length vars0) (length new - length vars0)
own_more vars0 vars new h e f =
    let k : ℕ = length vars - length vars0 in
    let count : suc k ≡ length new - length vars0 = omega (arith, ap length f, length_push vars (Var (length vars))) in
    let at : length vars0 + k ≡ length vars = omega arith in
    f ∙ (ap (λ vs. vs ++ Var (length vars) ∷ []) e ∙ (append_assoc vars0 (own_words (length vars0) k) (Var (length vars) ∷ [])
    ∙ ap (λ vs. vars0 ++ vs) (ap (λ n. own_words (length vars0) k ++ Var n ∷ []) (sym at) ∙ (own-push (length vars0) k ∙ ap (own_words (length vars0)) count))))

-- the tree of the word of a compound that was built
pub built_comp : (s new : State) (b : ℕ) (ws : List CodeWord) (vars p k : ℕ) (f : NameId) (first from at : ℕ) → IsCode ws vars → p < length ws → K.Comp k f first from ≡ get_or ws p no_code
    → Grows s new → ((first + k) - from) + at ≤ length new.cells
    → ((q : ℕ) → from ≤ q → q < first + k → get_or (base new) ((q - from) + at) (var 0) ≡ raise b (code_tree ws q))
    → tree_of_word new (Comp k f ((first - from) + at)) ≡ apply (bound s) (raise b (code_tree ws p))
built_comp s new b ws vars p k f first from at code h e g room trees_are =
    let within : CodeIn ws vars p (K.Comp k f first from) = subst (CodeIn ws vars p) (sym e) (code.words_in p h) in
    let B : List (Tree ℕ) = base new in
    let C : List (Tree ℕ) = code_base ws in
    let a : ℕ = (first - from) + at in
    let args : take k (drop a B) ≡ map (raise b) (take k (drop first C)) =
    same_span (raise b) B C a first k (omega (arith, length-bases_nil new.cells, within.0)) (omega (arith, length-bases_nil (map plain ws), length-map ws plain, within.1)) (λ i m.
    let x : ((first + i) - from) + at ≡ a + i = omega (arith, within.0) in
    subst (λ n. get_or B n (var 0) ≡ raise b (code_tree ws (first + i))) x (trees_are (first + i) (omega (arith, within.0)) (omega arith))) in
    ap (λ bs. apply bs (comp f.0 (trees (take k (drop a B))))) g.bound
    ∙ ap (apply (bound s)) (ap (λ ts. comp f.0 (trees ts)) args ∙ (ap (comp f.0) (sym (trees-raise b (take k (drop first C))))
    ∙ ap (raise b) (sym (code_tree-at ws vars p code h ∙ ap (λ x. word_tree C (plain x)) (sym e)))))
