-- The laws of `Solved`: the answer is an idempotent unifier, each unifier factors through it, and none means that there is none.
use Rattle.std.proofs.Common.{◌≡◌, ◌≢◌, ℕ, suc, ◌+◌, ◌≤◌, List, [], ◌∷◌, refl, ap, ◌∙◌, sym, Bool, true, false, ◌||◌, arith, Option, Some, None, nat_eq, if◌then◌else◌, ◌<◌, inl, inr}
use Rattle.std.proofs.lemmas.Bool.{eqb-true, eq-eqb, or_cases, or_left, or_right}
use Rattle.pl_terms.specs.Trees.{Tree, Trees, var, int, atom, comp, nil, cons, count}
use Rattle.unifier_model.specs.Substitution.{substitute, substitute_all, apply, apply_all, made_by, size, sizes, occurs, occurs_any, replace, replace_all}
use Rattle.unifier_model.specs.Unifier.{Solved, replaced, binding, pairs, IsClash, IsOther}
use Rattle.unifier_model.specs.Unifier.Solved.{solved, same, higher_left, higher_right, left, right, left_inside, right_inside, parts, clash}
use Rattle.unifier_model.specs.Unifier.IsClash.{ints, atoms, names, counts, int_atom, atom_int, int_comp, comp_int, atom_comp, comp_atom}
use Rattle.unifier_model.specs.UnifierLaws.{Unifies, UnifiedBy, IsUnifier, Factors, IsIdempotent, IsLow, IsMgu}
use Rattle.unifier_model.proofs.Replaced.{replace-absent, replace-same, apply-comp, apply_all-tree, apply-int, apply-atom, apply_all-none}

-- an equation that was replaced is one before
pub UnifiedBy-replaced : (n : ℕ) (t : Tree ℕ) (bs : List (ℕ × Tree ℕ)) (es : List (Tree ℕ × Tree ℕ)) → UnifiedBy bs (replaced n t es) → UnifiedBy ((n, t) ∷ bs) es
UnifiedBy-replaced n t bs [] h = tt
UnifiedBy-replaced n t bs (e ∷ es) h = (h.0, UnifiedBy-replaced n t bs es h.1)

pub IsUnifier-binding : (n : ℕ) (t l r : Tree ℕ) (a : Option (List (ℕ × Tree ℕ))) (es : List (Tree ℕ × Tree ℕ)) → replace n t l ≡ replace n t r → IsUnifier a (replaced n t es) → IsUnifier (binding n t a) ((l, r) ∷ es)
IsUnifier-binding n t l r None es e h = tt
IsUnifier-binding n t l r (Some bs) es e h = (ap (apply bs) e, UnifiedBy-replaced n t bs es h)

pub apply_all-pairs : (bs : List (ℕ × Tree ℕ)) (ts us : Trees ℕ) (es : List (Tree ℕ × Tree ℕ)) → count ts ≡ count us → UnifiedBy bs (pairs ts us es) → (apply_all bs ts ≡ apply_all bs us) × UnifiedBy bs es
apply_all-pairs bs nil nil es c h = (refl, h)
apply_all-pairs bs nil (cons u us) es c h = absurd (omega arith)
apply_all-pairs bs (cons t ts) nil es c h = absurd (omega arith)
apply_all-pairs bs (cons t ts) (cons u us) es c h =
    let r = apply_all-pairs bs ts us es (omega arith) h.1 in
    (apply_all-tree bs t ts ∙ (ap (λ x. cons x (apply_all bs ts)) h.0 ∙ (ap (cons (apply bs u)) r.0 ∙ sym (apply_all-tree bs u us))), r.1)

pub IsUnifier-same : (a : Option (List (ℕ × Tree ℕ))) (l r : Tree ℕ) (es : List (Tree ℕ × Tree ℕ)) → l ≡ r → IsUnifier a es → IsUnifier a ((l, r) ∷ es)
IsUnifier-same None l r es e h = tt
IsUnifier-same (Some bs) l r es e h = (ap (apply bs) e, h)

pub IsUnifier-parts : (a : Option (List (ℕ × Tree ℕ))) (f : _) (ts us : Trees ℕ) (es : List (Tree ℕ × Tree ℕ)) → count ts ≡ count us → IsUnifier a (pairs ts us es) → IsUnifier a ((comp f ts, comp f us) ∷ es)
IsUnifier-parts None f ts us es c h = tt
IsUnifier-parts (Some bs) f ts us es c h =
    let r = apply_all-pairs bs ts us es c h in
    (apply-comp bs f ts ∙ (ap (comp f) r.0 ∙ sym (apply-comp bs f us)), r.1)

pub replace-other : (n m : ℕ) (t : Tree ℕ) → n ≢ m → replace n t (var m) ≡ var m
replace-other n m t ne = let e : nat_eq n m ≡ false = search (arith, ne) in rw e

-- the answer is a unifier
pub Solved-unifier : {es : List (Tree ℕ × Tree ℕ)} {a : Option (List (ℕ × Tree ℕ))} → Solved es a → IsUnifier a es
Solved-unifier solved = tt
Solved-unifier (same {t} {es} {r} h) = IsUnifier-same r t t es refl (Solved-unifier h)
Solved-unifier (higher_left {n} {m} {es} {r} lt h) =
    let ne : n ≢ m = omega arith in
    IsUnifier-binding n (var m) (var n) (var m) r es (replace-same n (var m) ∙ sym (replace-other n m (var m) ne)) (Solved-unifier h)
Solved-unifier (higher_right {n} {m} {es} {r} lt h) =
    let ne : m ≢ n = omega arith in
    IsUnifier-binding m (var n) (var n) (var m) r es (replace-other m n (var n) ne ∙ sym (replace-same m (var n))) (Solved-unifier h)
Solved-unifier (left {n} {t} {es} {r} other o h) = IsUnifier-binding n t (var n) t r es (replace-same n t ∙ sym (replace-absent n t t o)) (Solved-unifier h)
Solved-unifier (right {n} {t} {es} {r} other o h) = IsUnifier-binding n t t (var n) r es (replace-absent n t t o ∙ sym (replace-same n t)) (Solved-unifier h)
Solved-unifier (left_inside other o) = tt
Solved-unifier (right_inside other o) = tt
Solved-unifier (parts {f} {ts} {us} {es} {r} c h) = IsUnifier-parts r f ts us es c (Solved-unifier h)
Solved-unifier (clash c) = tt

-- a substitution that agrees with a replacement sees through it
mutual
  pub substitute-replace : (s : ℕ → Tree ℕ) (n : ℕ) (t u : Tree ℕ) → s n ≡ substitute s t → substitute s (replace n t u) ≡ substitute s u
  substitute-replace s n t (var m) e = go (nat_eq n m) refl
    where
      go : (b : Bool) → nat_eq n m ≡ b → substitute s (if b then t else var m) ≡ s m
      go true h = sym e ∙ ap s (eqb-true n m h)
      go false h = refl
  substitute-replace s n t (int z) e = refl
  substitute-replace s n t (atom a) e = refl
  substitute-replace s n t (comp f us) e = ap (comp f) (substitute_all-replace s n t us e)

  pub substitute_all-replace : (s : ℕ → Tree ℕ) (n : ℕ) (t : Tree ℕ) (us : Trees ℕ) → s n ≡ substitute s t → substitute_all s (replace_all n t us) ≡ substitute_all s us
  substitute_all-replace s n t nil e = refl
  substitute_all-replace s n t (cons u us) e =
      ap (λ x. cons x (substitute_all s (replace_all n t us))) (substitute-replace s n t u e) ∙ ap (cons (substitute s u)) (substitute_all-replace s n t us e)

pub Unifies-replaced : (s : ℕ → Tree ℕ) (n : ℕ) (t : Tree ℕ) (es : List (Tree ℕ × Tree ℕ)) → s n ≡ substitute s t → Unifies s es → Unifies s (replaced n t es)
Unifies-replaced s n t [] e h = tt
Unifies-replaced s n t (x ∷ es) e h =
    (substitute-replace s n t x.0 e ∙ (h.0 ∙ sym (substitute-replace s n t x.1 e)), Unifies-replaced s n t es e h.1)

pub Factors-binding : (s : ℕ → Tree ℕ) (n : ℕ) (t : Tree ℕ) (a : Option (List (ℕ × Tree ℕ))) → s n ≡ substitute s t → Factors s a → Factors s (binding n t a)
Factors-binding s n t None e h = h
Factors-binding s n t (Some bs) e h = λ u. h (replace n t u) ∙ substitute-replace s n t u e

-- a variable in a tree is no larger than the tree
mutual
  pub size-occurs : (s : ℕ → Tree ℕ) (n : ℕ) (t : Tree ℕ) → occurs n t ≡ true → size (s n) ≤ size (substitute s t)
  size-occurs s n (var m) o = let e : n ≡ m = eqb-true n m o in rw e (omega arith)
  size-occurs s n (int z) o = cc
  size-occurs s n (atom a) o = cc
  size-occurs s n (comp f ts) o = omega (arith, sizes-occurs s n ts o)

  pub sizes-occurs : (s : ℕ → Tree ℕ) (n : ℕ) (ts : Trees ℕ) → occurs_any n ts ≡ true → size (s n) ≤ sizes (substitute_all s ts)
  sizes-occurs s n nil o = cc
  sizes-occurs s n (cons t ts) o = go (occurs n t) refl (size-occurs s n t) (sizes-occurs s n ts) o
    where
      go : (b : Bool) → occurs n t ≡ b → (occurs n t ≡ true → size (s n) ≤ size (substitute s t)) → (occurs_any n ts ≡ true → size (s n) ≤ sizes (substitute_all s ts))
          → (b || occurs_any n ts) ≡ true → size (s n) ≤ size (substitute s t) + sizes (substitute_all s ts)
      go true e f g o = omega (arith, f e)
      go false e f g o = omega (arith, g o)

pub not_inside : (s : ℕ → Tree ℕ) (n : ℕ) (t : Tree ℕ) → IsOther t → occurs n t ≡ true → s n ≡ substitute s t → ⊥
not_inside s n (var m) other o e = other
not_inside s n (int z) other o e = cc
not_inside s n (atom a) other o e = cc
not_inside s n (comp f ts) other o e = omega (arith, sizes-occurs s n ts o, ap size e)

pub count-substitute_all : (s : ℕ → Tree ℕ) (ts : Trees ℕ) → count (substitute_all s ts) ≡ count ts
count-substitute_all s nil = refl
count-substitute_all s (cons t ts) = ap suc (count-substitute_all s ts)

pub Unifies-pairs : (s : ℕ → Tree ℕ) (ts us : Trees ℕ) (es : List (Tree ℕ × Tree ℕ)) → substitute_all s ts ≡ substitute_all s us → Unifies s es → Unifies s (pairs ts us es)
Unifies-pairs s nil us es e h = h
Unifies-pairs s (cons t ts) nil es e h = h
Unifies-pairs s (cons t ts) (cons u us) es e h =
    let a : substitute s t ≡ substitute s u = cc in
    let b : substitute_all s ts ≡ substitute_all s us = cc in
    (a, Unifies-pairs s ts us es b h)

pub not_clash : (s : ℕ → Tree ℕ) {t u : Tree ℕ} → IsClash t u → substitute s t ≡ substitute s u → ⊥
not_clash s (ints ne) e = ne cc
not_clash s (atoms ne) e = ne cc
not_clash s (names ne) e = ne cc
not_clash s (counts {f} {g} {ts} {us} ne) e =
    let h : substitute_all s ts ≡ substitute_all s us = cc in
    ne (sym (count-substitute_all s ts) ∙ (ap count h ∙ count-substitute_all s us))
not_clash s int_atom e = cc
not_clash s atom_int e = cc
not_clash s int_comp e = cc
not_clash s comp_int e = cc
not_clash s atom_comp e = cc
not_clash s comp_atom e = cc

-- each unifier factors through the answer, and where it is none there is no unifier
pub Solved-factors : {es : List (Tree ℕ × Tree ℕ)} {a : Option (List (ℕ × Tree ℕ))} → (s : ℕ → Tree ℕ) → Solved es a → Unifies s es → Factors s a
Solved-factors s solved u = λ t. refl
Solved-factors s (same h) u = Solved-factors s h u.1
Solved-factors s (higher_left {n} {m} {es} {r} lt h) u = Factors-binding s n (var m) r u.0 (Solved-factors s h (Unifies-replaced s n (var m) es u.0 u.1))
Solved-factors s (higher_right {n} {m} {es} {r} lt h) u = Factors-binding s m (var n) r (sym u.0) (Solved-factors s h (Unifies-replaced s m (var n) es (sym u.0) u.1))
Solved-factors s (left {n} {t} {es} {r} other o h) u = Factors-binding s n t r u.0 (Solved-factors s h (Unifies-replaced s n t es u.0 u.1))
Solved-factors s (right {n} {t} {es} {r} other o h) u = Factors-binding s n t r (sym u.0) (Solved-factors s h (Unifies-replaced s n t es (sym u.0) u.1))
Solved-factors s (left_inside {n} {t} other o) u = not_inside s n t other o u.0
Solved-factors s (right_inside {n} {t} other o) u = not_inside s n t other o (sym u.0)
Solved-factors s (parts {f} {ts} {us} {es} {r} c h) u =
    let e : substitute_all s ts ≡ substitute_all s us = cc u.0 in
    Solved-factors s h (Unifies-pairs s ts us es e u.1)
Solved-factors s (clash c) u = not_clash s c u.0

-- replacements are a substitution
mutual
  pub substitute-apply : (bs : List (ℕ × Tree ℕ)) (t : Tree ℕ) → substitute (made_by bs) t ≡ apply bs t
  substitute-apply bs (var n) = refl
  substitute-apply bs (int z) = sym (apply-int bs z)
  substitute-apply bs (atom a) = sym (apply-atom bs a)
  substitute-apply bs (comp f ts) = ap (comp f) (substitute_all-apply bs ts) ∙ sym (apply-comp bs f ts)

  pub substitute_all-apply : (bs : List (ℕ × Tree ℕ)) (ts : Trees ℕ) → substitute_all (made_by bs) ts ≡ apply_all bs ts
  substitute_all-apply bs nil = sym (apply_all-none bs)
  substitute_all-apply bs (cons t ts) =
      ap (λ x. cons x (substitute_all (made_by bs) ts)) (substitute-apply bs t) ∙ (ap (cons (apply bs t)) (substitute_all-apply bs ts) ∙ sym (apply_all-tree bs t ts))

pub Unifies-apply : (bs : List (ℕ × Tree ℕ)) (es : List (Tree ℕ × Tree ℕ)) → UnifiedBy bs es → Unifies (made_by bs) es
Unifies-apply bs [] h = tt
Unifies-apply bs (e ∷ es) h = (substitute-apply bs e.0 ∙ (h.0 ∙ sym (substitute-apply bs e.1)), Unifies-apply bs es h.1)

pub Solved-idempotent : (es : List (Tree ℕ × Tree ℕ)) (a : Option (List (ℕ × Tree ℕ))) → Solved es a → IsIdempotent a
Solved-idempotent es None h = tt
Solved-idempotent es (Some bs) h = λ t.
    let f : Factors (made_by bs) (Some bs) = Solved-factors (made_by bs) h (Unifies-apply bs es (Solved-unifier h)) in
    sym (substitute-apply bs (apply bs t)) ∙ (f t ∙ substitute-apply bs t)

-- where there is an answer, it makes no variable a higher one
abbrev pub IsLowAnswer : Option (List (ℕ × Tree ℕ)) → Type 0
IsLowAnswer None = Unit {0}
IsLowAnswer (Some bs) = IsLow (made_by bs)

low_tree : (bs : List (ℕ × Tree ℕ)) (n : ℕ) (t : Tree ℕ) → ((k : ℕ) → t ≡ var k → k < n) → IsLow (made_by bs) → (m : ℕ) → apply bs t ≡ var m → m ≤ n
low_tree bs n (var k) d low m e = omega (arith, d k refl, low k m e)
low_tree bs n (int z) d low m e = let i : apply bs (int z) ≡ int z = apply-int bs z in cc
low_tree bs n (atom a) d low m e = let i : apply bs (atom a) ≡ atom a = apply-atom bs a in cc
low_tree bs n (comp f ts) d low m e = let i : apply bs (comp f ts) ≡ comp f (apply_all bs ts) = apply-comp bs f ts in cc

low_at : (bs : List (ℕ × Tree ℕ)) (n : ℕ) (t : Tree ℕ) → ((k : ℕ) → t ≡ var k → k < n) → IsLow (made_by bs) → (j m : ℕ) (b : Bool) → nat_eq n j ≡ b → apply bs (if b then t else var j) ≡ var m → m ≤ j
low_at bs n t d low j m true q e = omega (arith, eqb-true n j q, low_tree bs n t d low m e)
low_at bs n t d low j m false q e = low j m e

IsLow-binding : (n : ℕ) (t : Tree ℕ) (a : Option (List (ℕ × Tree ℕ))) → ((k : ℕ) → t ≡ var k → k < n) → IsLowAnswer a → IsLowAnswer (binding n t a)
IsLow-binding n t None d low = tt
IsLow-binding n t (Some bs) d low = λ j m e. low_at bs n t d low j m (nat_eq n j) refl e

no_variable : (t : Tree ℕ) (n : ℕ) → IsOther t → (k : ℕ) → t ≡ var k → k < n
no_variable (var m) n other k e = absurd other
no_variable (int z) n other k e = cc
no_variable (atom a) n other k e = cc
no_variable (comp f ts) n other k e = cc

lower : (n m : ℕ) → m < n → (k : ℕ) → ◌≡◌ {A = Tree ℕ} (var m) (var k) → k < n
lower n m lt k e = let i : m ≡ k = cc in omega arith

pub Solved-low : {es : List (Tree ℕ × Tree ℕ)} {a : Option (List (ℕ × Tree ℕ))} → Solved es a → IsLowAnswer a
Solved-low solved = λ n m e. let i : n ≡ m = cc in omega arith
Solved-low (same h) = Solved-low h
Solved-low (higher_left {n} {m} {es} {r} lt h) = IsLow-binding n (var m) r (lower n m lt) (Solved-low h)
Solved-low (higher_right {n} {m} {es} {r} lt h) = IsLow-binding m (var n) r (lower m n lt) (Solved-low h)
Solved-low (left {n} {t} {es} {r} other o h) = IsLow-binding n t r (no_variable t n other) (Solved-low h)
Solved-low (right {n} {t} {es} {r} other o h) = IsLow-binding n t r (no_variable t n other) (Solved-low h)
Solved-low (left_inside other o) = tt
Solved-low (right_inside other o) = tt
Solved-low (parts c h) = Solved-low h
Solved-low (clash c) = tt

pub IsMgu-answer : (es : List (Tree ℕ × Tree ℕ)) (bs : List (ℕ × Tree ℕ)) → Solved es (Some bs) → IsMgu es (made_by bs)
IsMgu-answer es bs h = record {
  unifies = Unifies-apply bs es (Solved-unifier h);
  general = λ r u n. let f : Factors r (Some bs) = Solved-factors r h u in f (var n);
  low = Solved-low h;
}

-- what a substitution keeps, it keeps at each variable
mutual
  fixes : (s : ℕ → Tree ℕ) (u : Tree ℕ) (m : ℕ) → substitute s u ≡ u → occurs m u ≡ true → s m ≡ var m
  fixes s (var n) m e h = let i : m ≡ n = eqb-true m n h in ap s i ∙ (e ∙ ap var (sym i))
  fixes s (int z) m e h = cc
  fixes s (atom a) m e h = cc
  fixes s (comp f ts) m e h = let i : substitute_all s ts ≡ ts = cc in fixes_all s ts m i h

  fixes_all : (s : ℕ → Tree ℕ) (us : Trees ℕ) (m : ℕ) → substitute_all s us ≡ us → occurs_any m us ≡ true → s m ≡ var m
  fixes_all s nil m e h = cc
  fixes_all s (cons u us) m e h =
      elim (or_cases (occurs m u) (occurs_any m us) h) [
        | inl p ↦ (let q : substitute s u ≡ u = cc in fixes s u m q p)
        | inr p ↦ (let q : substitute_all s us ≡ us = cc in fixes_all s us m q p)
      ]

mutual
  keeps : (r : ℕ → Tree ℕ) (u : Tree ℕ) → ((m : ℕ) → occurs m u ≡ true → r m ≡ var m) → substitute r u ≡ u
  keeps r (var n) h = h n (eq-eqb n n refl)
  keeps r (int z) h = refl
  keeps r (atom a) h = refl
  keeps r (comp f ts) h = ap (comp f) (keeps_all r ts h)

  keeps_all : (r : ℕ → Tree ℕ) (us : Trees ℕ) → ((m : ℕ) → occurs_any m us ≡ true → r m ≡ var m) → substitute_all r us ≡ us
  keeps_all r nil h = refl
  keeps_all r (cons u us) h =
      ap (λ v. cons v (substitute_all r us)) (keeps r u (λ m e. h m (or_left (occurs m u) (occurs_any m us) e)))
      ∙ ap (cons u) (keeps_all r us (λ m e. h m (or_right (occurs m u) (occurs_any m us) e)))

-- a tree that becomes a variable is one
of_var : (s : ℕ → Tree ℕ) (t : Tree ℕ) (m : ℕ) → substitute s t ≡ var m → (k : ℕ) × (t ≡ var k) × (s k ≡ var m)
of_var s (var k) m e = (k, refl, e)
of_var s (int z) m e = cc
of_var s (atom a) m e = cc
of_var s (comp f ts) m e = cc

pub IsMgu-unique : (es : List (Tree ℕ × Tree ℕ)) (s r : ℕ → Tree ℕ) → IsMgu es s → IsMgu es r → (n : ℕ) → s n ≡ r n
IsMgu-unique es s r hs hr n = sym (keeps r (s n) kept) ∙ hs.general r hr.unifies n
  where
    kept : (m : ℕ) → occurs m (s n) ≡ true → r m ≡ var m
    kept m h =
        let own : s m ≡ var m = fixes s (s n) m (hs.general s hs.unifies n) h in
        let v = of_var s (r m) m (hr.general s hs.unifies m ∙ own) in
        let down : v.0 ≤ m = hr.low m v.0 v.1 in
        let up : m ≤ v.0 = hs.low v.0 m v.2 in
        let e : v.0 ≡ m = omega arith in
        v.1 ∙ ap var e
