-- All equations have one answer.
use Rattle.std.proofs.Common.{◌≡◌, ◌≢◌, ℕ, ◌<◌, ◌≤◌, List, ◌∷◌, refl, ap, ◌∙◌, sym, subst, Bool, true, false, ◌&&◌, arith, rules, Option, None, nat_eq, nat_lt, if◌then◌else◌, ℤ}
use Rattle.std.specs.Ordering.{int_eq}
use Rattle.std.proofs.lemmas.Bool.{eq-eqb}
use Rattle.std.proofs.lemmas.Bool.Decides.{Decides-int_eq}
use Rattle.pl_terms.specs.Trees.{Tree, var, int, atom, comp, Trees, nil, cons, count}
use Rattle.unifier_model.specs.Substitution.{occurs}
use Rattle.unifier_model.specs.Unifier.{Solved, replaced, binding, pairs, IsClash, IsOther}
use Rattle.unifier_model.specs.Unifier.Solved.{solved, same, higher_left, higher_right, left, right, left_inside, right_inside, parts, clash}
use Rattle.unifier_model.specs.Unifier.IsClash.{ints, atoms, names, counts, int_atom, atom_int, int_comp, comp_int, atom_comp, comp_atom}
use Rattle.unifier_model.specs.Mgu.{at_variable, move, mgu}
use Rattle.unifier_model.proofs.MguProofs.{Solved-mgu}
use Rattle.unifier_model.specs.Mgu.Move.{stop, turn, bind}

data Run : List (Tree ℕ × Tree ℕ) → Option (List (ℕ × Tree ℕ)) → Type 0 where
  ends : {es : List (Tree ℕ × Tree ℕ)} {a : Option (List (ℕ × Tree ℕ))} → move nat_eq es ≡ stop a → Run es a
  goes : {es es' : List (Tree ℕ × Tree ℕ)} {a : Option (List (ℕ × Tree ℕ))} → move nat_eq es ≡ turn es' → Run es' a → Run es a
  binds : {es es' : List (Tree ℕ × Tree ℕ)} {n : ℕ} {t : Tree ℕ} {a : Option (List (ℕ × Tree ℕ))} → move nat_eq es ≡ bind n t es' → Run (replaced n t es') a → Run es (binding n t a)

Run-only : {es : List (Tree ℕ × Tree ℕ)} {a b : Option (List (ℕ × Tree ℕ))} → Run es a → Run es b → a ≡ b
Run-only (ends e) (ends f) = cc
Run-only (ends e) (goes f q) = cc
Run-only (ends e) (binds f q) = cc
Run-only (goes e r) (ends f) = cc
Run-only (goes {es'} {a} e r) (goes {es' = es3} {a = b} f q) =
    let h : es3 ≡ es' = cc in
    Run-only r (subst (λ x. Run x b) h q)
Run-only (goes e r) (binds f q) = cc
Run-only (binds e r) (ends f) = cc
Run-only (binds e r) (goes f q) = cc
Run-only (binds {es'} {n} {t} {a} e r) (binds {es' = es3} {n = m} {t = u} {a = b} f q) =
    let h : es3 ≡ es' = cc in
    let i : m ≡ n = cc in
    let j : u ≡ t = cc in
    let same_es : replaced m u es3 ≡ replaced n t es' = cc in
    let k : a ≡ b = Run-only r (subst (λ x. Run x b) same_es q) in
    let l : binding m u b ≡ binding n t b = cc in
    ap (binding n t) k ∙ sym l

int_eq-refl : (x : ℤ) → int_eq x x ≡ true
int_eq-refl x = search (rules, Decides-int_eq)

int_eq-ne : (x y : ℤ) → x ≢ y → int_eq x y ≡ false
int_eq-ne x y ne = search (rules, Decides-int_eq)

lt-true : (m n : ℕ) → m < n → nat_lt m n ≡ true
lt-true m n h = search (rules, arith)

lt-false : (m n : ℕ) → n ≤ m → nat_lt m n ≡ false
lt-false m n h = search (rules, arith)

-- equal trees are dropped
mutual
  Run-same : (t : Tree ℕ) (es : List (Tree ℕ × Tree ℕ)) (a : Option (List (ℕ × Tree ℕ))) → Run es a → Run ((t, t) ∷ es) a
  Run-same (var n) es a r = let e : nat_lt n n ≡ false = lt-false n n (omega arith) in goes (rw e) r
  Run-same (int z) es a r = let e : int_eq z z ≡ true = int_eq-refl z in goes (rw e) r
  Run-same (atom b) es a r = let e : nat_eq b b ≡ true = eq-eqb b b refl in goes (rw e) r
  Run-same (comp f ts) es a r =
      let e : nat_eq f f ≡ true = eq-eqb f f refl in
      let d : nat_eq (count ts) (count ts) ≡ true = eq-eqb (count ts) (count ts) refl in
      goes (rw (e, d)) (Run-pairs ts es a r)

  Run-pairs : (ts : Trees ℕ) (es : List (Tree ℕ × Tree ℕ)) (a : Option (List (ℕ × Tree ℕ))) → Run es a → Run (pairs ts ts es) a
  Run-pairs nil es a r = r
  Run-pairs (cons t ts) es a r = Run-same t (pairs ts ts es) a (Run-pairs ts es a r)

left_move : (n : ℕ) (t : Tree ℕ) (es : List (Tree ℕ × Tree ℕ)) → IsOther t → move nat_eq ((var n, t) ∷ es) ≡ at_variable n t es
left_move n (var m) es other = absurd other
left_move n (int z) es other = refl
left_move n (atom a) es other = refl
left_move n (comp f ts) es other = refl

right_move : (n : ℕ) (t : Tree ℕ) (es : List (Tree ℕ × Tree ℕ)) → IsOther t → move nat_eq ((t, var n) ∷ es) ≡ at_variable n t es
right_move n (var m) es other = absurd other
right_move n (int z) es other = refl
right_move n (atom a) es other = refl
right_move n (comp f ts) es other = refl

absent_move : (n : ℕ) (t : Tree ℕ) (es : List (Tree ℕ × Tree ℕ)) → occurs n t ≡ false → at_variable n t es ≡ bind n t es
absent_move n t es o = rw o

inside_move : (n : ℕ) (t : Tree ℕ) (es : List (Tree ℕ × Tree ℕ)) → occurs n t ≡ true → at_variable n t es ≡ stop None
inside_move n t es o = rw o

clash_move : {t u : Tree ℕ} (es : List (Tree ℕ × Tree ℕ)) → IsClash t u → move nat_eq ((t, u) ∷ es) ≡ stop None
clash_move es (ints {x} {y} ne) = let e : int_eq x y ≡ false = int_eq-ne x y ne in rw e
clash_move es (atoms {a} {b} ne) = let e : nat_eq a b ≡ false = search (arith, ne) in rw e
clash_move es (names {f} {g} {ts} {us} ne) = let e : nat_eq f g ≡ false = search (arith, ne) in rw e
clash_move es (counts {f} {g} {ts} {us} ne) = go2 (nat_eq f g)
  where
    go2 : (b : Bool) → (if b && nat_eq (count ts) (count us) then turn (pairs ts us es) else stop None) ≡ stop None
    go2 true = let e : nat_eq (count ts) (count us) ≡ false = search (arith, ne) in rw e
    go2 false = refl
clash_move es int_atom = refl
clash_move es atom_int = refl
clash_move es int_comp = refl
clash_move es comp_int = refl
clash_move es atom_comp = refl
clash_move es comp_atom = refl

Run-of : {es : List (Tree ℕ × Tree ℕ)} {a : Option (List (ℕ × Tree ℕ))} → Solved es a → Run es a
Run-of solved = ends refl
Run-of (same {t} {es} {r} h) = Run-same t es r (Run-of h)
Run-of (higher_left {n} {m} {es} {r} lt h) = let e : nat_lt m n ≡ true = lt-true m n lt in binds (rw e) (Run-of h)
Run-of (higher_right {n} {m} {es} {r} lt h) =
    let e : nat_lt m n ≡ false = lt-false m n (omega arith) in
    let f : nat_lt n m ≡ true = lt-true n m lt in
    binds (rw (e, f)) (Run-of h)
Run-of (left {n} {t} {es} {r} other o h) = binds (left_move n t es other ∙ absent_move n t es o) (Run-of h)
Run-of (right {n} {t} {es} {r} other o h) = binds (right_move n t es other ∙ absent_move n t es o) (Run-of h)
Run-of (left_inside {n} {t} {es} other o) = ends (left_move n t es other ∙ inside_move n t es o)
Run-of (right_inside {n} {t} {es} other o) = ends (right_move n t es other ∙ inside_move n t es o)
Run-of (parts {f} {ts} {us} {es} {r} c h) =
    let e : nat_eq f f ≡ true = eq-eqb f f refl in
    let d : nat_eq (count ts) (count us) ≡ true = eq-eqb (count ts) (count us) c in
    goes (rw (e, d)) (Run-of h)
Run-of (clash {t} {u} {es} c) = ends (clash_move es c)

-- the answers of two runs of the steps are one
pub Solved-only : (es : List (Tree ℕ × Tree ℕ)) (a b : Option (List (ℕ × Tree ℕ))) → Solved es a → Solved es b → a ≡ b
Solved-only es a b h g = Run-only (Run-of h) (Run-of g)

-- the answer is that of `mgu`
pub mgu-Solved : (es : List (Tree ℕ × Tree ℕ)) (a : Option (List (ℕ × Tree ℕ))) → Solved es a → mgu es ≡ a
mgu-Solved es a h = Solved-only es (mgu es) a (Solved-mgu es) h
