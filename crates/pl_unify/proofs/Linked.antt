-- What the bindings of a store in order give.
use Rattle.std.proofs.Common.{◌≡◌, ℕ, suc, ◌+◌, ◌<◌, ◌≤◌, List, [], ◌∷◌, ◌++◌, take, drop, length, get_or, refl, ap, ◌∙◌, sym, Bool, true, false, nat_eq, arith, if◌then◌else◌}
use Rattle.std.proofs.lemmas.List.{take-append-drop, drop_more}
use Rattle.pl_terms.specs.Trees.{Tree, var}
use Rattle.unifier_model.specs.Substitution.{replace, apply}
use Rattle.pl_unify.specs.Words.{word_tree, bound_onto, Link, no_link, place_of, IsFree}
use Rattle.pl_unify.specs.State.{LinkOk}
use Rattle.unifier_model.proofs.Replaced.{replace-absent, replace-same, apply-append}
use Rattle.pl_unify.proofs.Grown.{bound_onto-append, bound_onto-begins}

pub place_of-le : (n : ℕ) (ls : List Link) → place_of n ls ≤ length ls
place_of-le n [] = omega arith
place_of-le n (l ∷ ls) = go (nat_eq l.var n) (place_of-le n ls)
  where
    go : (b : Bool) → place_of n ls ≤ length ls → (if b then 0 else (place_of n ls + 1)) ≤ suc (length ls)
    go true h = omega arith
    go false h = omega arith

pub free_head : (n : ℕ) (l : Link) (ls : List Link) → IsFree n (l ∷ ls) → (nat_eq l.var n ≡ false) × IsFree n ls
free_head n l ls h = go (nat_eq l.var n) refl h
  where
    go : (b : Bool) → nat_eq l.var n ≡ b → (if b then 0 else (place_of n ls + 1)) ≡ suc (length ls) → (nat_eq l.var n ≡ false) × IsFree n ls
    go true e p = absurd (omega arith)
    go false e p = (e, omega arith)

pub apply-free : (b : List (Tree ℕ)) (done : List (ℕ × Tree ℕ)) (ls : List Link) (n : ℕ) → apply done (var n) ≡ var n → IsFree n ls → apply (bound_onto b done ls) (var n) ≡ var n
apply-free b done [] n e h = e
apply-free b done (l ∷ ls) n e h =
    let p = free_head n l ls h in
    let t : Tree ℕ = apply done (word_tree b l.word) in
    let ne : nat_eq l.var n ≡ false = p.0 in
    let s : replace l.var t (var n) ≡ var n = rw ne in
    apply-free b (done ++ (l.var, t) ∷ []) ls n (apply-append done ((l.var, t) ∷ []) (var n) ∙ (ap (replace l.var t) e ∙ s)) p.1

-- a bound variable reads as what it is bound to
pub apply-link : (b : List (Tree ℕ)) (ls : List Link) (i : ℕ) → i < length ls → LinkOk b (take i ls) (get_or ls i no_link)
    → apply (bound_onto b [] ls) (var (get_or ls i no_link).var) ≡ apply (bound_onto b [] ls) (word_tree b (get_or ls i no_link).word)
apply-link b ls i h ok =
    let l : Link = get_or ls i no_link in
    let rest : List Link = drop (i + 1) ls in
    let pre : List (ℕ × Tree ℕ) = bound_onto b [] (take i ls) in
    let t : Tree ℕ = apply pre (word_tree b l.word) in
    let split : ls ≡ take i ls ++ l ∷ rest = sym (take-append-drop i ls) ∙ ap (λ x. take i ls ++ x) (drop_more ls i no_link h) in
    let more = bound_onto-begins b (pre ++ (l.var, t) ∷ []) rest in
    let e : bound_onto b [] ls ≡ (pre ++ (l.var, t) ∷ []) ++ more.0 = ap (bound_onto b []) split ∙ (bound_onto-append b [] (take i ls) (l ∷ rest) ∙ more.1) in
    let at : (x : Tree ℕ) → apply (bound_onto b [] ls) x ≡ apply more.0 (replace l.var t (apply pre x)) =
    λ x. ap (λ y. apply y x) e ∙ (apply-append (pre ++ (l.var, t) ∷ []) more.0 x ∙ ap (apply more.0) (apply-append pre ((l.var, t) ∷ []) x)) in
    let unbound : apply pre (var l.var) ≡ var l.var = apply-free b [] (take i ls) l.var refl ok.unused in
    let left : apply (bound_onto b [] ls) (var l.var) ≡ apply more.0 t = at (var l.var) ∙ ap (apply more.0) (ap (replace l.var t) unbound ∙ replace-same l.var t) in
    let right : apply (bound_onto b [] ls) (word_tree b l.word) ≡ apply more.0 t = at (word_tree b l.word) ∙ ap (apply more.0) (replace-absent l.var t t ok.acyclic) in
    left ∙ sym right
