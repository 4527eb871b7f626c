-- A store with further places and variables.
use Rattle.std.proofs.Common.{◌≡◌, ℕ, zero, suc, ◌+◌, ◌-◌, ◌<◌, ◌≤◌, List, [], ◌∷◌, ◌++◌, take, length, get_or, refl, ap, ◌∙◌, sym, subst, false, nat_eq, arith, add-one, ◌⊎◌, inl, inr}
use Rattle.std.proofs.lemmas.List.{length_push, take_at, length-take-le, get_or-take, length-append, get_or_append_left, get_or-append_right, take_all, get_or_push}
use Rattle.std.proofs.lemmas.Bool.{cases_lt}
use Rattle.pl_terms.specs.Trees.{var}
use Rattle.unifier_model.specs.Substitution.{occurs, apply}
use Rattle.pl_unify.specs.declared.word.Word.{Word}
use Rattle.pl_unify.specs.declared.word.Word.TheVariants.{Var, Int, Name, Comp}
use Rattle.pl_unify.specs.Words.{word_tree, bases, bound_onto, Link, no_link, no_word, IsFree, WordIn}
use Rattle.pl_unify.specs.State.{State, IsStore, LinkOk, bound, tree_at, links_of, IsStoreInside, Grows}
use Rattle.pl_unify.proofs.Grown.{bases-append, bases-begins, length-bases, length-bases_nil, word_tree-append, bound_onto-same, bases-push}
use Rattle.pl_unify.proofs.Follow.{inside, length-links_of}
use Rattle.pl_unify.proofs.Linked.{apply-free}

pub WordIn-more : (c n c' n' : ℕ) (w : Word) → c ≤ c' → n ≤ n' → WordIn c n w → WordIn c' n' w
WordIn-more c n c' n' (Var m) hc hn h = omega arith
WordIn-more c n c' n' (Int m) hc hn h = tt
WordIn-more c n c' n' (Name m) hc hn h = tt
WordIn-more c n c' n' (Comp k f first) hc hn h = (omega (arith, h.0), h.1)

-- a state with `more` behind its places
abbrev pub with_more : State → List Word → ℕ → State
with_more s more next = record { cells = s.cells ++ more; links = s.links; next = next }

-- the older links make the same replacements over more places
pub bound-more : (s : State) (more : List Word) (i : ℕ) → IsStore s → i ≤ length s.links
    → bound_onto (bases [] (s.cells ++ more)) [] (take i s.links) ≡ bound_onto (bases [] s.cells) [] (take i s.links)
bound-more s more i st h =
    let r = bases-begins (bases [] s.cells) more in
    let e : bases [] (s.cells ++ more) ≡ bases [] s.cells ++ r.0 = bases-append [] s.cells more ∙ r.1 in
    bound_onto-same (bases [] (s.cells ++ more)) (bases [] s.cells) [] (take i s.links)
    (λ k l.
    let low : k < i = omega (arith, length-take-le i s.links h) in
    let at : get_or (take i s.links) k no_link ≡ get_or s.links k no_link = get_or-take i s.links k no_link low in
    let word : WordIn (length s.cells) s.next (get_or s.links k no_link).word = (st.links_in k (omega arith)).word in
    let inside_base : WordIn (length (bases [] s.cells)) s.next (get_or s.links k no_link).word = rw (length-bases_nil s.cells) word in
    rw at (ap (λ b. word_tree b (get_or s.links k no_link).word) e ∙ word_tree-append (bases [] s.cells) r.0 (get_or s.links k no_link).word s.next inside_base))

pub word_tree-more : (s : State) (more : List Word) (w : Word) (next : ℕ) → WordIn (length s.cells) next w → word_tree (bases [] (s.cells ++ more)) w ≡ word_tree (bases [] s.cells) w
word_tree-more s more w next h =
    let r = bases-begins (bases [] s.cells) more in
    let e : bases [] (s.cells ++ more) ≡ bases [] s.cells ++ r.0 = bases-append [] s.cells more ∙ r.1 in
    let inside_base : WordIn (length (bases [] s.cells)) next w = rw (length-bases_nil s.cells) h in
    ap (λ b. word_tree b w) e ∙ word_tree-append (bases [] s.cells) r.0 w next inside_base

pub with_more-bound : (s : State) (more : List Word) (next : ℕ) → IsStore s → bound (with_more s more next) ≡ bound s
with_more-bound s more next st =
    let all : take (length s.links) s.links ≡ s.links = take_all (length s.links) s.links (omega arith) in
    subst (λ ls. bound_onto (bases [] (s.cells ++ more)) [] ls ≡ bound_onto (bases [] s.cells) [] ls) all (bound-more s more (length s.links) st (omega arith))

pub with_more-store : (s : State) (more : List Word) (next : ℕ) → IsStore s → s.next ≤ next
    → ((p : ℕ) → p < length more → WordIn (length s.cells + p) next (get_or more p no_word))
    → IsStore (with_more s more next)
with_more-store s more next st up h = record {
  cells_in = λ p l. cell p l (cases_lt p (length s.cells));
  links_in = λ i l. record {
    number = omega (arith, (st.links_in i l).number);
    word = WordIn-more (length s.cells) s.next (length (s.cells ++ more)) next (get_or s.links i no_link).word (omega (arith, length-append s.cells more)) up (st.links_in i l).word;
  };
  links_ok = λ i l.
      let ok : LinkOk (bases [] s.cells) (take i s.links) (get_or s.links i no_link) = st.links_ok i l in
      let same : bound_onto (bases [] (s.cells ++ more)) [] (take i s.links) ≡ bound_onto (bases [] s.cells) [] (take i s.links) = bound-more s more i st (omega arith) in
      let word : word_tree (bases [] (s.cells ++ more)) (get_or s.links i no_link).word ≡ word_tree (bases [] s.cells) (get_or s.links i no_link).word = word_tree-more s more (get_or s.links i no_link).word s.next (st.links_in i l).word in
      record {
        unused = ok.unused;
        acyclic = ap (λ b. occurs (get_or s.links i no_link).var (apply b (word_tree (bases [] (s.cells ++ more)) (get_or s.links i no_link).word))) same
            ∙ (ap (λ t. occurs (get_or s.links i no_link).var (apply (bound_onto (bases [] s.cells) [] (take i s.links)) t)) word ∙ ok.acyclic);
        ahead = ok.ahead;
      };
}
  where
    cell : (p : ℕ) → p < length (s.cells ++ more) → (p < length s.cells) ⊎ (length s.cells ≤ p) → WordIn p next (get_or (s.cells ++ more) p no_word)
    cell p l (inl low) = rw (get_or_append_left s.cells more no_word p low) (WordIn-more p s.next p next (get_or s.cells p no_word) (omega arith) up (st.cells_in p low))
    cell p l (inr high) =
        let q : p - length s.cells < length more = omega (arith, length-append s.cells more) in
        let at : length s.cells + (p - length s.cells) ≡ p = omega arith in
        rw (get_or-append_right s.cells more (length s.cells) p no_word refl high)
        (subst (λ k. WordIn k next (get_or more (p - length s.cells) no_word)) at (h (p - length s.cells) q))

pub with_more-grows : (s : State) (more : List Word) (next : ℕ) → IsStore s → s.next ≤ next → Grows s (with_more s more next)
with_more-grows s more next st up =
    let same : bound (with_more s more next) ≡ bound s = with_more-bound s more next st in
    let r = bases-begins (bases [] s.cells) more in
    let e : bases [] (s.cells ++ more) ≡ bases [] s.cells ++ r.0 = bases-append [] s.cells more ∙ r.1 in
    record {
      extends = record {
        cells = take_at s.cells more (length s.cells) refl;
        links = take_all (length s.links) s.links (omega arith);
        next = up;
        more_cells = omega (arith, length-append s.cells more);
        more_links = omega arith;
      };
      links = refl;
      bound = same;
      places = λ r0 h.
          let low : r0.0 < length (bases [] s.cells) = omega (arith, length-bases [] s.cells) in
          ap (λ b. apply b (get_or (bases [] (s.cells ++ more)) r0.0 (var 0))) same
          ∙ ap (apply (bound s)) (ap (λ b. get_or b r0.0 (var 0)) e ∙ get_or_append_left (bases [] s.cells) r.0 (var 0) r0.0 low);
      variables = λ n. ap (λ b. apply b (var n)) same;
    }

-- variables that are added leave the bindings
pub links_of-same : (vars vars' : List Word) (trail : List ℕ) → ((i : ℕ) → i < length trail → get_or vars (get_or trail i 0) no_word ≡ get_or vars' (get_or trail i 0) no_word) → links_of vars trail ≡ links_of vars' trail
links_of-same vars vars' [] h = refl
links_of-same vars vars' (n ∷ ns) h =
    let e : get_or vars n no_word ≡ get_or vars' n no_word = h 0 (omega arith) in
    ap (λ w. record { var = n; word = w } ∷ links_of vars ns) e ∙ ap (λ r. record { var = n; word = get_or vars' n no_word } ∷ r) (links_of-same vars vars' ns (λ i l. h (suc i) (omega arith)))

pub links_of-var : (vars : List Word) (trail : List ℕ) (i : ℕ) → i < length trail → (get_or (links_of vars trail) i no_link).var ≡ get_or trail i 0
links_of-var vars [] i h = absurd (omega arith)
links_of-var vars (n ∷ ns) zero h = refl
links_of-var vars (n ∷ ns) (suc i) h = links_of-var vars ns i (omega arith)

-- each bound variable is one of the store
pub trail-low : (cells vars : List Word) (trail : List ℕ) (i : ℕ) → IsStoreInside cells vars trail → i < length trail → get_or trail i 0 < length vars
trail-low cells vars trail i inv h =
    let here : i < length (links_of vars trail) = omega (arith, length-links_of vars trail) in
    omega (arith, (inv.store.links_in i here).number, links_of-var vars trail i h)

pub links_of-append : (cells vars more : List Word) (trail : List ℕ) → IsStoreInside cells vars trail → links_of (vars ++ more) trail ≡ links_of vars trail
links_of-append cells vars more trail inv =
    links_of-same (vars ++ more) vars trail (λ i l. get_or_append_left vars more no_word (get_or trail i 0) (trail-low cells vars trail i inv l))

-- the fields with one more variable, and further places
pub inside-push : (cells vars more : List Word) (trail : List ℕ) → IsStoreInside cells vars trail
    → IsStore (with_more (inside cells vars trail) more (length vars + 1)) → IsStoreInside (cells ++ more) (vars ++ Var (length vars) ∷ []) trail
inside-push cells vars more trail inv st =
    let same : links_of (vars ++ Var (length vars) ∷ []) trail ≡ links_of vars trail = links_of-append cells vars (Var (length vars) ∷ []) trail inv in
    let count : length (vars ++ Var (length vars) ∷ []) ≡ length vars + 1 = length_push vars (Var (length vars)) in
    record {
      store = rw (same, count) st;
      free = λ n l f. own n l (subst (λ ls. IsFree n ls) same f) (cases_lt n (length vars));
    }
  where
    own : (n : ℕ) → n < length (vars ++ Var (length vars) ∷ []) → IsFree n (links_of vars trail) → (n < length vars) ⊎ (length vars ≤ n) → get_or (vars ++ Var (length vars) ∷ []) n no_word ≡ Var n
    own n l f (inl low) = get_or_append_left vars (Var (length vars) ∷ []) no_word n low ∙ inv.free n low f
    own n l f (inr high) =
        let e : length vars ≡ n = omega (arith, length_push vars (Var (length vars))) in
        get_or_push vars (Var (length vars)) no_word n e ∙ ap Var e

abbrev pub one_var : List Word → List Word
one_var vars = Var (length vars) ∷ []

pub record FreshMade (cells vars : List Word) (trail : List ℕ) : Type 0 where
  pub fields : IsStoreInside (cells ++ one_var vars) (vars ++ one_var vars) trail
  pub grows : Grows (inside cells vars trail) (inside (cells ++ one_var vars) (vars ++ one_var vars) trail)
  pub tree : tree_at (inside (cells ++ one_var vars) (vars ++ one_var vars) trail) (record { 0 = length cells }) ≡ var (length vars)

pub fresh_made : (cells vars : List Word) (trail : List ℕ) → IsStoreInside cells vars trail → FreshMade cells vars trail
fresh_made cells vars trail inv =
    let s : State = inside cells vars trail in
    let new : State = with_more s (one_var vars) (length vars + 1) in
    let here : (p : ℕ) → p < length (one_var vars) → WordIn (length cells + p) (length vars + 1) (get_or (one_var vars) p no_word) =
    λ p l. let e : 0 ≡ p = omega arith in subst (λ k. WordIn (length cells + k) (length vars + 1) (get_or (one_var vars) k no_word)) e (omega arith) in
    let st : IsStore new = with_more-store s (one_var vars) (length vars + 1) inv.store (omega arith) here in
    let same : links_of (vars ++ one_var vars) trail ≡ links_of vars trail = links_of-append cells vars (one_var vars) trail inv in
    let count : length (vars ++ one_var vars) ≡ length vars + 1 = length_push vars (Var (length vars)) in
    let state : inside (cells ++ one_var vars) (vars ++ one_var vars) trail ≡ new = rw (same, count) in
    let fit : length (bases [] cells) ≡ length cells = length-bases_nil cells in
    record {
      fields = inside-push cells vars (one_var vars) trail inv st;
      grows = subst (Grows s) (sym state) (with_more-grows s (one_var vars) (length vars + 1) inv.store (omega arith));
      tree = ap (λ x. tree_at x (record { 0 = length cells })) state
          ∙ (ap (λ b. apply b (get_or (bases [] (cells ++ one_var vars)) (length cells) (var 0))) (with_more-bound s (one_var vars) (length vars + 1) inv.store)
          ∙ (ap (apply (bound s)) (ap (λ b. get_or b (length cells) (var 0)) (bases-push cells (Var (length vars))) ∙ get_or_push (bases [] cells) (var (length vars)) (var 0) (length cells) fit)
          ∙ apply-free (bases [] cells) [] (links_of vars trail) (length vars) refl (unbound (links_of vars trail) (length vars) (λ i l. (inv.store.links_in i l).number))));
    }
  where
    unbound : (ls : List Link) (n : ℕ) → ((i : ℕ) → i < length ls → (get_or ls i no_link).var < n) → IsFree n ls
    unbound [] n h = refl
    unbound (l ∷ ls) n h =
        let low : l.var < n = h 0 (omega arith) in
        let ne : nat_eq l.var n ≡ false = search arith in
        rw ne (ap (λ k. k + 1) (unbound ls n (λ i k. h (suc i) (omega arith))) ∙ add-one (length ls))
