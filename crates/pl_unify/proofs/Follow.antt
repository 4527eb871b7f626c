-- Following a binding keeps the tree, and comes nearer to the newest binding.
use Rattle.std.proofs.Common.{◌≡◌, ◌≢◌, ℕ, zero, suc, ◌+◌, ◌-◌, ◌<◌, ◌≤◌, List, [], ◌∷◌, take, length, get_or, refl, ap, ◌∙◌, sym, subst, Bool, true, false, nat_eq, arith, add-one, if◌then◌else◌, ◌⊎◌, inl, inr}
use Rattle.std.proofs.lemmas.List.{get_or_read}
use Rattle.std.proofs.lemmas.Bool.{eqb-true, cases_lt, false≢true, eq-eqb}
use Rattle.pl_terms.specs.Trees.{var}
use Rattle.unifier_model.specs.Substitution.{occurs, apply}
use Rattle.pl_unify.specs.declared.word.Word.{Word}
use Rattle.pl_unify.specs.declared.word.Word.TheVariants.{Var, Int, Name, Comp}
use Rattle.pl_unify.specs.Words.{word_tree, bases, bound_onto, Link, no_link, no_word, place_of, IsFree, WordIn}
use Rattle.pl_unify.specs.State.{State, LinkOk, tree_of_word, links_of, IsStoreInside}
use Rattle.pl_unify.proofs.Linked.{place_of-le, free_head, apply-free, apply-link}

-- how many bindings can still follow one another from a word on
abbrev pub rank : List Link → Word → ℕ
rank ls (Var n) = length ls - place_of n ls
rank ls (Int z) = 0
rank ls (Name a) = 0
rank ls (Comp k f first) = 0

pub place_of_take : (m i : ℕ) (ls : List Link) → i ≤ length ls → IsFree m (take i ls) → i ≤ place_of m ls
place_of_take m zero ls h f = omega arith
place_of_take m (suc i) [] h f = absurd (omega arith)
place_of_take m (suc i) (l ∷ ls) h f =
    let p = free_head m l (take i ls) f in
    let ne : nat_eq l.var m ≡ false = p.0 in
    rw ne (omega (arith, place_of_take m i ls (omega arith) p.1))

pub get_or-place_of : (n : ℕ) (ls : List Link) → place_of n ls < length ls → (get_or ls (place_of n ls) no_link).var ≡ n
get_or-place_of n [] h = absurd (omega arith)
get_or-place_of n (l ∷ ls) h = go (nat_eq l.var n) refl (get_or-place_of n ls) h
  where
    go : (b : Bool) → nat_eq l.var n ≡ b → (place_of n ls < length ls → (get_or ls (place_of n ls) no_link).var ≡ n)
        → (if b then 0 else (place_of n ls + 1)) < suc (length ls) → (get_or (l ∷ ls) (if b then 0 else (place_of n ls + 1)) no_link).var ≡ n
    go true e r p = eqb-true l.var n e
    go false e r p = rw add-one (r (omega arith))

pub links_of-word : (vars : List Word) (trail : List ℕ) (i : ℕ) → i < length trail → (get_or (links_of vars trail) i no_link).word ≡ get_or vars (get_or (links_of vars trail) i no_link).var no_word
links_of-word vars [] i h = absurd (omega arith)
links_of-word vars (n ∷ ns) zero h = refl
links_of-word vars (n ∷ ns) (suc i) h = links_of-word vars ns i (omega arith)

pub length-links_of : (vars : List Word) (trail : List ℕ) → length (links_of vars trail) ≡ length trail
length-links_of vars [] = refl
length-links_of vars (n ∷ ns) = ap suc (length-links_of vars ns)

-- a bound variable's word is that of its link
pub link_of : (vars : List Word) (trail : List ℕ) (n : ℕ) → place_of n (links_of vars trail) < length trail
    → (get_or (links_of vars trail) (place_of n (links_of vars trail)) no_link).word ≡ get_or vars n no_word
link_of vars trail n h =
    let here : place_of n (links_of vars trail) < length (links_of vars trail) = omega (arith, length-links_of vars trail) in
    links_of-word vars trail (place_of n (links_of vars trail)) h ∙ ap (λ k. get_or vars k no_word) (get_or-place_of n (links_of vars trail) here)

abbrev pub inside : List Word → List Word → List ℕ → State
inside cells vars trail = record { cells = cells; links = links_of vars trail; next = length vars }

-- a variable whose word is another one is bound
pub bound_place : (cells vars : List Word) (trail : List ℕ) (n : ℕ) → IsStoreInside cells vars trail → n < length vars → get_or vars n no_word ≢ Var n
    → place_of n (links_of vars trail) < length trail
bound_place cells vars trail n inv h ne = go (cases_lt (place_of n (links_of vars trail)) (length trail))
  where
    go : (place_of n (links_of vars trail) < length trail) ⊎ (length trail ≤ place_of n (links_of vars trail)) → place_of n (links_of vars trail) < length trail
    go (inl l) = l
    go (inr g) = absurd (ne (inv.free n h (omega (arith, length-links_of vars trail, place_of-le n (links_of vars trail)))))

pub record Followed (cells vars : List Word) (trail : List ℕ) (n : ℕ) : Type 0 where
  pub same : tree_of_word (inside cells vars trail) (get_or vars n no_word) ≡ tree_of_word (inside cells vars trail) (Var n)
  pub within : WordIn (length cells) (length vars) (get_or vars n no_word)
  pub nearer : rank (links_of vars trail) (get_or vars n no_word) < rank (links_of vars trail) (Var n)

pub followed : (cells vars : List Word) (trail : List ℕ) (n : ℕ) → IsStoreInside cells vars trail → n < length vars → get_or vars n no_word ≢ Var n → Followed cells vars trail n
followed cells vars trail n inv h ne =
    let ls : List Link = links_of vars trail in
    let i : ℕ = place_of n ls in
    let low : i < length trail = bound_place cells vars trail n inv h ne in
    let here : i < length ls = omega (arith, length-links_of vars trail) in
    let number : (get_or ls i no_link).var ≡ n = get_or-place_of n ls here in
    let word : (get_or ls i no_link).word ≡ get_or vars n no_word = link_of vars trail n low in
    let ok : LinkOk (bases [] cells) (take i ls) (get_or ls i no_link) = inv.store.links_ok i here in
    record {
      same = sym (ap (λ k. apply (bound_onto (bases [] cells) [] ls) (var k)) (sym number) ∙ (apply-link (bases [] cells) ls i here ok ∙ ap (λ w. apply (bound_onto (bases [] cells) [] ls) (word_tree (bases [] cells) w)) word));
      within = subst (λ w. WordIn (length cells) (length vars) w) word (inv.store.links_in i here).word;
      nearer = step (get_or vars n no_word) refl ls i refl here number word ok;
    }
  where
    step : (w : Word) → get_or vars n no_word ≡ w → (ls : List Link) (i : ℕ) → i ≡ place_of n ls → i < length ls → (get_or ls i no_link).var ≡ n → (get_or ls i no_link).word ≡ get_or vars n no_word → LinkOk (bases [] cells) (take i ls) (get_or ls i no_link)
        → rank ls w < length ls - place_of n ls
    step (Var m) e ls i at here number word ok =
        let far : i ≤ place_of m ls = place_of_take m i ls (omega arith) (ok.ahead m (word ∙ e)) in
        let other : place_of m ls ≢ place_of n ls = λ q. ne (e ∙ ap Var (sym (get_or-place_of m ls (omega arith)) ∙ (ap (λ k. (get_or ls k no_link).var) (q ∙ sym at) ∙ number))) in
        omega arith
    step (Int z) e ls i at here number word ok = omega arith
    step (Name a) e ls i at here number word ok = omega arith
    step (Comp k f first) e ls i at here number word ok = omega arith

-- a variable whose word is its own is unbound
pub own_free : (cells vars : List Word) (trail : List ℕ) (n : ℕ) → IsStoreInside cells vars trail → get_or vars n no_word ≡ Var n → IsFree n (links_of vars trail)
own_free cells vars trail n inv own = go (cases_lt (place_of n (links_of vars trail)) (length trail))
  where
    go : (place_of n (links_of vars trail) < length trail) ⊎ (length trail ≤ place_of n (links_of vars trail)) → IsFree n (links_of vars trail)
    go (inr g) = omega (arith, length-links_of vars trail, place_of-le n (links_of vars trail))
    go (inl low) =
        let ls : List Link = links_of vars trail in
        let i : ℕ = place_of n ls in
        let here : i < length ls = omega (arith, length-links_of vars trail) in
        let number : (get_or ls i no_link).var ≡ n = get_or-place_of n ls here in
        let word : (get_or ls i no_link).word ≡ Var n = link_of vars trail n low ∙ own in
        let ok : LinkOk (bases [] cells) (take i ls) (get_or ls i no_link) = inv.store.links_ok i here in
        let alone : apply (bound_onto (bases [] cells) [] (take i ls)) (var n) ≡ var n = apply-free (bases [] cells) [] (take i ls) n refl (ok.ahead n word) in
        let one : occurs (get_or ls i no_link).var (apply (bound_onto (bases [] cells) [] (take i ls)) (word_tree (bases [] cells) (get_or ls i no_link).word)) ≡ nat_eq n n =
        ap (λ k. occurs k (apply (bound_onto (bases [] cells) [] (take i ls)) (word_tree (bases [] cells) (get_or ls i no_link).word))) number
        ∙ (ap (λ w. occurs n (apply (bound_onto (bases [] cells) [] (take i ls)) (word_tree (bases [] cells) w))) word ∙ ap (occurs n) alone) in
        absurd (false≢true (sym ok.acyclic ∙ (one ∙ eq-eqb n n refl)))

-- one step along a binding, from the word w to the word next
pub record Nearer (cells vars : List Word) (trail : List ℕ) (w next : Word) : Type 0 where
  pub same : tree_of_word (inside cells vars trail) next ≡ tree_of_word (inside cells vars trail) w
  pub within : WordIn (length cells) (length vars) next
  pub nearer : rank (links_of vars trail) next < rank (links_of vars trail) w

pub nearer_next : (cells vars : List Word) (trail : List ℕ) (n : ℕ) (w next : Word) → IsStoreInside cells vars trail → w ≡ Var n → WordIn (length cells) (length vars) w
    → next ≡ get_or vars n next → next ≢ Var n → Nearer cells vars trail w next
nearer_next cells vars trail n w next inv is within read ne =
    let low : n < length vars = subst (λ x. WordIn (length cells) (length vars) x) is within in
    let e : next ≡ get_or vars n no_word = get_or_read vars n next low read no_word in
    let f = followed cells vars trail n inv low (λ q. ne (e ∙ q)) in
    record {
      same = rw (is, e) f.same;
      within = rw e f.within;
      nearer = rw (is, e) f.nearer;
    }
