-- A binding that is added, and bindings that are taken off.
use Rattle.std.proofs.Common.{◌≡◌, ◌≢◌, ℕ, zero, suc, ◌+◌, ◌<◌, ◌≤◌, List, [], ◌∷◌, ◌++◌, take, length, get_or, set, refl, ap, ◌∙◌, sym, subst, false, nat_eq, arith, add-one, ◌⊎◌, inl, inr}
use Rattle.std.proofs.lemmas.List.{length_push, take_at, length-take-le, take-append-le, get_or-take, get_or_append_left, take_all, get_or_push, map_push, get_or-set_same, get_or-set_other, length-set, take-take}
use Rattle.std.proofs.lemmas.Bool.{cases_lt, cases_eq, eqb-false}
use Rattle.pl_terms.specs.Trees.{Tree, var}
use Rattle.unifier_model.specs.Substitution.{occurs, apply}
use Rattle.pl_unify.specs.declared.word.Word.{Word}
use Rattle.pl_unify.specs.declared.word.Word.TheVariants.{Var}
use Rattle.pl_unify.specs.Words.{bases, Link, link, no_link, no_word, IsFree, WordIn}
use Rattle.pl_unify.specs.State.{State, IsStore, LinkOk, LinkIn, bound, tree_of_word, links_of, IsStoreInside, FreeAreOwn, Binds, IsUnbindable, IsMark, state_at}
use Rattle.pl_unify.specs.declared.store.Mark.{Mark}
use Rattle.pl_unify.proofs.Grown.{bound_onto-push}
use Rattle.unifier_model.proofs.Replaced.{apply-append}
use Rattle.pl_unify.proofs.Linked.{free_head}
use Rattle.pl_unify.proofs.Follow.{inside, length-links_of}
use Rattle.pl_unify.proofs.Adds.{links_of-same, links_of-var, trail-low}

-- a variable with no link is at no index
pub free_index : (n : ℕ) (ls : List Link) (i : ℕ) → IsFree n ls → i < length ls → (get_or ls i no_link).var ≢ n
free_index n [] i f h e = absurd (omega arith)
free_index n (l ∷ ls) zero f h e = eqb-false l.var n (free_head n l ls f).0 e
free_index n (l ∷ ls) (suc i) f h e = free_index n ls i (free_head n l ls f).1 (omega arith) e

pub free_cons : (n : ℕ) (l : Link) (ls : List Link) → l.var ≢ n → IsFree n ls → IsFree n (l ∷ ls)
free_cons n l ls ne f =
    let e : nat_eq l.var n ≡ false = search arith in
    rw e (ap (λ k. k + 1) f ∙ add-one (length ls))

pub free_push : (n : ℕ) (ls : List Link) (l : Link) → IsFree n ls → l.var ≢ n → IsFree n (ls ++ l ∷ [])
free_push n [] l f ne = free_cons n l [] ne refl
free_push n (x ∷ xs) l f ne =
    let p = free_head n x xs f in
    free_cons n x (xs ++ l ∷ []) (eqb-false x.var n p.0) (free_push n xs l p.1 ne)

pub free_front : (n : ℕ) (ls : List Link) (l : Link) → IsFree n (ls ++ l ∷ []) → IsFree n ls × (l.var ≢ n)
free_front n [] l f = (refl, eqb-false l.var n (free_head n l [] f).0)
free_front n (x ∷ xs) l f =
    let p = free_head n x (xs ++ l ∷ []) f in
    let r = free_front n xs l p.1 in
    (free_cons n x xs (eqb-false x.var n p.0) r.0, r.1)

pub links_of-push : (vars : List Word) (trail : List ℕ) (n : ℕ) → links_of vars (trail ++ n ∷ []) ≡ links_of vars trail ++ link n (get_or vars n no_word) ∷ []
links_of-push vars trail n = map_push (λ k. link k (get_or vars k no_word)) trail n

-- a write to a variable that is not bound leaves the links
pub links_of-set : (vars : List Word) (trail : List ℕ) (n : ℕ) (w : Word) → IsFree n (links_of vars trail) → links_of (set vars n w) trail ≡ links_of vars trail
links_of-set vars trail n w f =
    links_of-same (set vars n w) vars trail (λ i l.
    let here : i < length (links_of vars trail) = omega (arith, length-links_of vars trail) in
    let ne : get_or trail i 0 ≢ n = λ e. free_index n (links_of vars trail) i f here (links_of-var vars trail i l ∙ e) in
    get_or-set_other vars n (get_or trail i 0) w no_word ne)

module _ (cells vars : List Word) (trail : List ℕ) (n : ℕ) (w : Word) (inv : IsStoreInside cells vars trail) (low : n < length vars)
    (free : IsFree n (links_of vars trail)) (within : WordIn (length cells) (length vars) w) (ahead : (m : ℕ) → w ≡ Var m → IsFree m (links_of vars trail))
    (absent : occurs n (tree_of_word (inside cells vars trail) w) ≡ false) where
  pub attach-links : links_of (set vars n w) (trail ++ n ∷ []) ≡ links_of vars trail ++ link n w ∷ []
  attach-links =
      let here : get_or (set vars n w) n no_word ≡ w = get_or-set_same vars n w no_word low in
      links_of-push (set vars n w) trail n
      ∙ (ap (λ ls. ls ++ link n (get_or (set vars n w) n no_word) ∷ []) (links_of-set vars trail n w free) ∙ ap (λ x. links_of vars trail ++ link n x ∷ []) here)

  attach-state : inside cells (set vars n w) (trail ++ n ∷ []) ≡ record { cells = cells; links = links_of vars trail ++ link n w ∷ []; next = length vars }
  attach-state = rw (attach-links, length-set vars n w)

  attach-store : IsStore (record { cells = cells; links = links_of vars trail ++ link n w ∷ []; next = length vars })
  attach-store =
      let ls : List Link = links_of vars trail in
      record {
        cells_in = inv.store.cells_in;
        links_in = λ i l. linked i l (cases_lt i (length ls));
        links_ok = λ i l. linked_ok i l (cases_lt i (length ls));
      }
    where
      linked : (i : ℕ) → i < length (links_of vars trail ++ link n w ∷ []) → (i < length (links_of vars trail)) ⊎ (length (links_of vars trail) ≤ i) → LinkIn (length cells) (length vars) (get_or (links_of vars trail ++ link n w ∷ []) i no_link)
      linked i l (inl h) = rw (get_or_append_left (links_of vars trail) (link n w ∷ []) no_link i h) (inv.store.links_in i h)
      linked i l (inr h) =
          let e : length (links_of vars trail) ≡ i = omega (arith, length_push (links_of vars trail) (link n w)) in
          rw (get_or_push (links_of vars trail) (link n w) no_link i e) (record { number = low; word = within })

      linked_ok : (i : ℕ) → i < length (links_of vars trail ++ link n w ∷ []) → (i < length (links_of vars trail)) ⊎ (length (links_of vars trail) ≤ i)
          → LinkOk (bases [] cells) (take i (links_of vars trail ++ link n w ∷ [])) (get_or (links_of vars trail ++ link n w ∷ []) i no_link)
      linked_ok i l (inl h) =
          rw (get_or_append_left (links_of vars trail) (link n w ∷ []) no_link i h, take-append-le i (links_of vars trail) (link n w ∷ []) (omega arith)) (inv.store.links_ok i h)
      linked_ok i l (inr h) =
          let e : length (links_of vars trail) ≡ i = omega (arith, length_push (links_of vars trail) (link n w)) in
          rw (get_or_push (links_of vars trail) (link n w) no_link i e, take_at (links_of vars trail) (link n w ∷ []) i e)
          (record { unused = free; acyclic = absent; ahead = ahead })

  pub attach-inside : IsStoreInside cells (set vars n w) (trail ++ n ∷ [])
  attach-inside = record {
    store = rw attach-state attach-store;
    free = λ m l f.
        let p = free_front m (links_of vars trail) (link n w) (subst (λ ls. IsFree m ls) attach-links f) in
        let other : m ≢ n = λ e. p.1 (sym e) in
        get_or-set_other vars n m w no_word other ∙ inv.free m (omega (arith, length-set vars n w)) p.0;
  }

  pub attach-binds : Binds (inside cells vars trail) (inside cells (set vars n w) (trail ++ n ∷ [])) n (tree_of_word (inside cells vars trail) w)
  attach-binds =
      let ls : List Link = links_of vars trail in
      let t : Tree ℕ = tree_of_word (inside cells vars trail) w in
      let made : bound (inside cells (set vars n w) (trail ++ n ∷ [])) ≡ bound (inside cells vars trail) ++ (n, t) ∷ [] =
      ap bound attach-state ∙ bound_onto-push (bases [] cells) ls (link n w) in
      record {
        extends = record {
          cells = take_all (length cells) cells (omega arith);
          links = ap (take (length ls)) attach-links ∙ take_at ls (link n w ∷ []) (length ls) refl;
          next = omega (arith, length-set vars n w);
          more_cells = omega arith;
          more_links = omega (arith, ap length attach-links, length_push ls (link n w));
        };
        cells = refl;
        next = length-set vars n w;
        bound = made;
        places = λ r. ap (λ b. apply b (get_or (bases [] cells) r.0 (var 0))) made ∙ apply-append (bound (inside cells vars trail)) ((n, t) ∷ []) (get_or (bases [] cells) r.0 (var 0));
        variables = λ k. ap (λ b. apply b (var k)) made ∙ apply-append (bound (inside cells vars trail)) ((n, t) ∷ []) (var k);
      }

pub inside-unbindable : (cells vars : List Word) (trail : List ℕ) → IsStoreInside cells vars trail → IsUnbindable vars trail
inside-unbindable cells vars trail inv = record {
  low = λ i l. trail-low cells vars trail i inv l;
  once = λ i l.
      let here : i < length (links_of vars trail) = omega (arith, length-links_of vars trail) in
      subst (λ k. IsFree k (take i (links_of vars trail))) (links_of-var vars trail i l) (inv.store.links_ok i here).unused;
  free = inv.free;
}

-- the newest binding is taken off
pub record UnbindStep (vars : List Word) (trail : List ℕ) (n : ℕ) : Type 0 where
  pub low : n < length vars
  pub links : links_of (set vars n (Var n)) trail ≡ links_of vars trail
  pub unbindable : IsUnbindable (set vars n (Var n)) trail

pub unbind_step : (vars : List Word) (trail : List ℕ) (n : ℕ) → IsUnbindable vars (trail ++ n ∷ []) → UnbindStep vars trail n
unbind_step vars trail n inv =
    let last : length trail < length (trail ++ n ∷ []) = omega (arith, length_push trail n) in
    let at : get_or (trail ++ n ∷ []) (length trail) 0 ≡ n = get_or_push trail n 0 (length trail) refl in
    let push : links_of vars (trail ++ n ∷ []) ≡ links_of vars trail ++ link n (get_or vars n no_word) ∷ [] = links_of-push vars trail n in
    let front : take (length trail) (links_of vars (trail ++ n ∷ [])) ≡ links_of vars trail = ap (take (length trail)) push ∙ take_at (links_of vars trail) (link n (get_or vars n no_word) ∷ []) (length trail) (length-links_of vars trail) in
    let alone : IsFree n (links_of vars trail) = subst (λ ls. IsFree n ls) front (subst (λ k. IsFree k (take (length trail) (links_of vars (trail ++ n ∷ [])))) at (inv.once (length trail) last)) in
    let number : n < length vars = omega (arith, inv.low (length trail) last, at) in
    let same : links_of (set vars n (Var n)) trail ≡ links_of vars trail = links_of-set vars trail n (Var n) alone in
    record {
      low = number;
      links = same;
      unbindable = record {
        low = λ i l. omega (arith, length-set vars n (Var n), inv.low i (omega (arith, length_push trail n)), get_or_append_left trail (n ∷ []) 0 i l);
        once = λ i l.
            let a : get_or (trail ++ n ∷ []) i 0 ≡ get_or trail i 0 = get_or_append_left trail (n ∷ []) 0 i l in
            let b : take i (links_of vars (trail ++ n ∷ [])) ≡ take i (links_of vars trail) = ap (take i) push ∙ take-append-le i (links_of vars trail) (link n (get_or vars n no_word) ∷ []) (omega (arith, length-links_of vars trail)) in
            subst (λ ls. IsFree (get_or trail i 0) (take i ls)) (sym same) (subst (λ ls. IsFree (get_or trail i 0) ls) b (subst (λ k. IsFree k (take i (links_of vars (trail ++ n ∷ [])))) a (inv.once i (omega (arith, length_push trail n)))));
        free = λ m l f. own m (omega (arith, length-set vars n (Var n))) (subst (λ ls. IsFree m ls) same f) (cases_eq m n) number push;
      };
    }
  where
    own : (m : ℕ) → m < length vars → IsFree m (links_of vars trail) → (m ≡ n) ⊎ (m ≢ n) → n < length vars → links_of vars (trail ++ n ∷ []) ≡ links_of vars trail ++ link n (get_or vars n no_word) ∷ [] → get_or (set vars n (Var n)) m no_word ≡ Var m
    own m l f (inl e) low push = ap (λ k. get_or (set vars n (Var n)) k no_word) e ∙ (get_or-set_same vars n (Var n) no_word low ∙ ap Var (sym e))
    own m l f (inr ne) low push =
        get_or-set_other vars n m (Var n) no_word ne ∙ inv.free m l (rw push (free_push m (links_of vars trail) (link n (get_or vars n no_word)) f (λ e. ne (sym e))))

-- the links without the newest are the front of the front
pub unbind_links : (vars : List Word) (trail : List ℕ) (n : ℕ) (all : List Link) → links_of vars (trail ++ n ∷ []) ≡ take (length (trail ++ n ∷ [])) all → links_of vars trail ≡ take (length trail) all
unbind_links vars trail n all e =
    let count : length trail ≤ length (trail ++ n ∷ []) = omega (arith, length_push trail n) in
    let front : take (length trail) (links_of vars (trail ++ n ∷ [])) ≡ links_of vars trail = ap (take (length trail)) (links_of-push vars trail n) ∙ take_at (links_of vars trail) (link n (get_or vars n no_word) ∷ []) (length trail) (length-links_of vars trail) in
    sym front ∙ (ap (take (length trail)) e ∙ take-take (length trail) (length (trail ++ n ∷ [])) all count)

-- after an undo: the bindings of the mark over fewer variables
pub links_of-take : (vars : List Word) (trail : List ℕ) (k : ℕ) → ((i : ℕ) → i < length trail → get_or trail i 0 < k) → links_of (take k vars) trail ≡ links_of vars trail
links_of-take vars trail k h = links_of-same (take k vars) vars trail (λ i l. get_or-take k vars (get_or trail i 0) no_word (h i l))

pub record UndoMade (cells vars : List Word) (trail : List ℕ) (m : Mark) (s : State) : Type 0 where
  pub fields : IsStoreInside (take m.cells cells) (take m.vars vars) trail
  pub state : inside (take m.cells cells) (take m.vars vars) trail ≡ state_at m s

-- `vars` and `trail` are what is left after unbinding down to the mark
pub undo_made : (cells vars : List Word) (trail : List ℕ) (m : Mark) (s : State) → IsMark m s → cells ≡ s.cells → length vars ≡ s.next → links_of vars trail ≡ take m.trail s.links → FreeAreOwn vars trail → UndoMade cells vars trail m s
undo_made cells vars trail m s mark cells_is vars_is links free =
    let low : (i : ℕ) → i < length trail → get_or trail i 0 < m.vars = λ i l.
    let here : i < length (links_of vars trail) = omega (arith, length-links_of vars trail) in
    let there : i < length (take m.trail s.links) = omega (arith, ap length links) in
    let number : (get_or (take m.trail s.links) i no_link).var < m.vars = (mark.store.links_in i there).number in
    let same : (get_or (links_of vars trail) i no_link).var ≡ (get_or (take m.trail s.links) i no_link).var = ap (λ ls. (get_or ls i no_link).var) links in
    omega (arith, links_of-var vars trail i l) in
    let left : links_of (take m.vars vars) trail ≡ links_of vars trail = links_of-take vars trail m.vars low in
    let count : length (take m.vars vars) ≡ m.vars = length-take-le m.vars vars (omega (arith, mark.vars)) in
    let state : inside (take m.cells cells) (take m.vars vars) trail ≡ state_at m s = rw (left ∙ links, count, cells_is) in
    record {
      fields = record {
        store = rw state mark.store;
        free = λ n l f.
            let below : n < m.vars = omega arith in
            get_or-take m.vars vars n no_word below ∙ free n (omega (arith, mark.vars)) (subst (λ ls. IsFree n ls) left f);
      };
      state = state;
    }
