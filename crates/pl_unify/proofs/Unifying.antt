-- Steps of `solve` and `unify`.
use Rattle.std.proofs.Common.{◌≡◌, ◌≢◌, ℕ, zero, suc, ◌+◌, ◌<◌, ◌≤◌, List, [], ◌∷◌, ◌++◌, length, refl, ap, ◌∙◌, sym, subst, Bool, true, false, arith, map, reverse, Option, Some, None, nat_eq, get_or, if◌then◌else◌, ◌⊎◌, inl, inr}
use Rattle.std.proofs.lemmas.List.{append-nil, append_assoc}
use Rattle.std.proofs.lemmas.Bool.{eq-eqb, cases_eq}
use Rattle.pl_terms.specs.Trees.{Tree, var}
use Rattle.unifier_model.specs.Substitution.{replace, occurs, apply}
use Rattle.pl_unify.specs.declared.word.Word.{Word}
use Rattle.pl_unify.specs.declared.word.Ref.{Ref}
use Rattle.pl_unify.specs.Words.{Link, IsFree, bases}
use Rattle.pl_unify.specs.State.{State, tree_at, tree_of_word, bound, base, Binds}
use Rattle.unifier_model.specs.Unifier.{Solved, replaced, binding}
use Rattle.pl_unify.specs.Steps.{PairsBelow, equations, BindStep, OnlyBinds, Unified, unbound, is_free}
use Rattle.pl_unify.specs.Match.{SolvedBy, after}
use Rattle.pl_unify.proofs.Moves.{solved_by}
use Rattle.pl_unify.proofs.StoreLaws.{Extends-trans, Extends-refl}
use Rattle.unifier_model.proofs.Replaced.{apply-append}
use Rattle.pl_unify.proofs.Linked.{free_head}
use Rattle.unifier_model.proofs.Only.{mgu-Solved}

pub after-binding : (done : List (ℕ × Tree ℕ)) (n : ℕ) (t : Tree ℕ) (r : Option (List (ℕ × Tree ℕ))) → after done (binding n t r) ≡ after (done ++ (n, t) ∷ []) r
after-binding done n t None = refl
after-binding done n t (Some bs) = ap Some (sym (append_assoc done ((n, t) ∷ []) bs))

pub after-nil : (r : Option (List (ℕ × Tree ℕ))) → after [] r ≡ r
after-nil None = refl
after-nil (Some bs) = refl

-- how far the unifier of equations has come
pub record Progress (s0 s : State) (all : List (Tree ℕ × Tree ℕ)) (work : List (ℕ × ℕ)) : Type 0 where
  pub only : OnlyBinds s0 s
  pub below : PairsBelow (length s.cells) (reverse work)
  pub done : List (ℕ × Tree ℕ)
  pub made : bound s ≡ bound s0 ++ done
  pub reduces : (r : Option (List (ℕ × Tree ℕ))) → Solved (equations s work) r → Solved all (after done r)

pub progress_start : (s : State) (work : List (ℕ × ℕ)) → PairsBelow (length s.cells) (reverse work) → Progress s s (equations s work) work
progress_start s work low = record {
  only = record { extends = Extends-refl s; cells = refl; next = refl };
  below = low;
  done = [];
  made = sym (append-nil (bound s));
  reduces = λ r h. rw (after-nil r) h;
}

pub tree_at-binds : (s s' : State) (n : ℕ) (t : Tree ℕ) (work : List (ℕ × ℕ)) → Binds s s' n t → equations s' work ≡ replaced n t (equations s work)
tree_at-binds s s' n t work b = go (reverse work)
  where
    go : (ps : List (ℕ × ℕ)) → map (λ p. (tree_at s' (record { 0 = p.0 }), tree_at s' (record { 0 = p.1 }))) ps ≡ replaced n t (map (λ p. (tree_at s (record { 0 = p.0 }), tree_at s (record { 0 = p.1 }))) ps)
    go [] = refl
    go (p ∷ ps) =
        let x : tree_at s' (record { 0 = p.0 }) ≡ replace n t (tree_at s (record { 0 = p.0 })) = b.places (record { 0 = p.0 }) in
        let y : tree_at s' (record { 0 = p.1 }) ≡ replace n t (tree_at s (record { 0 = p.1 })) = b.places (record { 0 = p.1 }) in
        ap (λ u. (u, tree_at s' (record { 0 = p.1 })) ∷ map (λ q. (tree_at s' (record { 0 = q.0 }), tree_at s' (record { 0 = q.1 }))) ps) x
        ∙ (ap (λ u. (replace n t (tree_at s (record { 0 = p.0 })), u) ∷ map (λ q. (tree_at s' (record { 0 = q.0 }), tree_at s' (record { 0 = q.1 }))) ps) y
        ∙ ap (λ r. (replace n t (tree_at s (record { 0 = p.0 })), replace n t (tree_at s (record { 0 = p.1 }))) ∷ r) (go ps))

pub progress_bind : (s0 s s' : State) (all : List (Tree ℕ × Tree ℕ)) (work new : List (ℕ × ℕ)) (n : ℕ) (w : Word) → Progress s0 s all work → BindStep s work new n w
    → occurs n (tree_of_word s w) ≡ false → Binds s s' n (tree_of_word s w) → Progress s0 s' all new
progress_bind s0 s s' all work new n w p step absent bind =
    let t : Tree ℕ = tree_of_word s w in
    record {
      only = record {
        extends = Extends-trans s0 s s' p.only.extends bind.extends;
        cells = bind.cells ∙ p.only.cells;
        next = bind.next ∙ p.only.next;
      };
      below = rw bind.cells step.below;
      done = p.done ++ (n, t) ∷ [];
      made = bind.bound ∙ (ap (λ x. x ++ (n, t) ∷ []) p.made ∙ append_assoc (bound s0) p.done ((n, t) ∷ []));
      reduces = λ r h.
          let moved : Solved (replaced n t (equations s new)) r = subst (λ es. Solved es r) (tree_at-binds s s' n t new bind) h in
          subst (Solved all) (after-binding p.done n t r) (p.reduces (binding n t r) (step.binds r absent moved));
    }

pub progress_done : (s0 s : State) (all : List (Tree ℕ × Tree ℕ)) (work : List (ℕ × ℕ)) → Progress s0 s all work → Solved (equations s work) (Some []) → SolvedBy s0 s all
progress_done s0 s all work p h =
    solved_by s0 s all p.done p.only.extends (subst (λ x. Solved all (Some x)) (append-nil p.done) (p.reduces (Some []) h)) p.made

-- the equation of two places
pub progress_unified : (s0 s : State) (a b : Ref) (work : List (ℕ × ℕ)) → work ≡ (a.0, b.0) ∷ [] → OnlyBinds s0 s → SolvedBy s0 s (equations s0 work) → Unified s0 s a b
progress_unified s0 s a b work e only d =
    let base_is : base s ≡ base s0 = ap (bases []) only.cells in
    record {
      only = only;
      unifier = d.unifier;
      solved = mgu-Solved _ (Some d.unifier) (subst (λ w. Solved (equations s0 w) (Some d.unifier)) e d.solved);
      bound = d.bound;
      places = λ r. ap (λ x. apply (bound s) (get_or x r.0 (var 0))) base_is ∙ (ap (λ x. apply x (get_or (base s0) r.0 (var 0))) d.bound ∙ apply-append (bound s0) d.unifier (get_or (base s0) r.0 (var 0)));
      variables = d.variables;
    }

-- a binding leaves fewer variables unbound
pub is_free-true : (n : ℕ) (ls : List Link) → IsFree n ls → is_free n ls ≡ true
is_free-true n [] f = refl
is_free-true n (l ∷ ls) f =
    let p = free_head n l ls f in
    let ne : nat_eq l.var n ≡ false = p.0 in
    rw ne (is_free-true n ls p.1)

pub is_free-push : (k : ℕ) (ls : List Link) (l : Link) → is_free k (ls ++ l ∷ []) ≡ (if nat_eq l.var k then false else is_free k ls)
is_free-push k [] l = refl
is_free-push k (x ∷ xs) l = go (nat_eq x.var k) (nat_eq l.var k) (is_free-push k xs l)
  where
    go : (p q : Bool) → is_free k (xs ++ l ∷ []) ≡ (if q then false else is_free k xs) → (if p then false else is_free k (xs ++ l ∷ [])) ≡ (if q then false else (if p then false else is_free k xs))
    go true true h = refl
    go true false h = refl
    go false q h = h

pub unbound-le : (k : ℕ) (ls : List Link) (l : Link) → unbound k (ls ++ l ∷ []) ≤ unbound k ls
unbound-le zero ls l = omega arith
unbound-le (suc k) ls l = go (nat_eq l.var k) (is_free k ls) (is_free k (ls ++ l ∷ [])) (is_free-push k ls l) (unbound-le k ls l)
  where
    go : (p q r : Bool) → r ≡ (if p then false else q) → unbound k (ls ++ l ∷ []) ≤ unbound k ls → (if r then 1 else 0) + unbound k (ls ++ l ∷ []) ≤ (if q then 1 else 0) + unbound k ls
    go true q r e h = rw e (omega arith)
    go false q r e h = rw e (omega arith)

pub unbound-push : (next : ℕ) (ls : List Link) (l : Link) → l.var < next → IsFree l.var ls → unbound next (ls ++ l ∷ []) < unbound next ls
unbound-push zero ls l h f = absurd (omega arith)
unbound-push (suc k) ls l h f = go (cases_eq l.var k) (λ lt. unbound-push k ls l lt f) (unbound-le k ls l)
  where
    here : l.var ≡ k → (is_free k (ls ++ l ∷ []) ≡ false) × (is_free k ls ≡ true)
    here e =
        let t : nat_eq l.var k ≡ true = eq-eqb l.var k e in
        (is_free-push k ls l ∙ rw t, subst (λ m. is_free m ls ≡ true) e (is_free-true l.var ls f))

    same_front : (l.var ≢ k) → is_free k (ls ++ l ∷ []) ≡ is_free k ls
    same_front ne =
        let t : nat_eq l.var k ≡ false = search (arith, ne) in
        is_free-push k ls l ∙ rw t

    go : (l.var ≡ k) ⊎ (l.var ≢ k) → (l.var < k → unbound k (ls ++ l ∷ []) < unbound k ls) → unbound k (ls ++ l ∷ []) ≤ unbound k ls
        → (if is_free k (ls ++ l ∷ []) then 1 else 0) + unbound k (ls ++ l ∷ []) < (if is_free k ls then 1 else 0) + unbound k ls
    go (inl e) rec le = let p = here e in let a : is_free k (ls ++ l ∷ []) ≡ false = p.0 in let b : is_free k ls ≡ true = p.1 in rw (a, b) (omega arith)
    go (inr ne) rec le = let a : is_free k (ls ++ l ∷ []) ≡ is_free k ls = same_front ne in rw a (omega (arith, rec (omega arith)))

-- states may be written for equal ones
pub only-moved : (s0 s1 s2 s3 : State) → s1 ≡ s0 → s3 ≡ s2 → OnlyBinds s1 s2 → OnlyBinds s0 s3
only-moved s0 s1 s2 s3 e f o = subst (λ s. OnlyBinds s0 s) (sym f) (subst (λ s. OnlyBinds s s2) e o)
