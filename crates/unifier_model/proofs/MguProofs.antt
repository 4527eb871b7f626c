-- The moves of `mgu` are the steps of `Solved`, and they end.
use Rattle.std.proofs.Common.{◌≡◌, ◌≢◌, ℕ, zero, suc, ◌+◌, ◌<◌, ◌≤◌, max, List, [], ◌∷◌, refl, ap, sym, subst, Bool, true, false, ◌||◌, ◌&&◌, arith, rules, Option, None, nat_eq, nat_lt, if◌then◌else◌, ◌⊎◌, inl, inr, ℤ, pos, negsuc}
use Rattle.std.specs.Ordering.{int_eq}
use Rattle.std.proofs.lemmas.Bool.{false≢true, eq-eqb, eqb-true, cases_eq, ltb-true, ltb-false}
use Rattle.std.proofs.lemmas.Bool.Decides.{Decides-int_eq}
use Rattle.pl_terms.specs.Trees.{Tree, var, int, atom, comp, Trees, nil, cons, count}
use Rattle.unifier_model.specs.Substitution.{size, sizes, occurs, occurs_any, replace, replace_all}
use Rattle.unifier_model.specs.Unifier.{Solved, replaced, binding, pairs, IsOther}
use Rattle.unifier_model.specs.Unifier.Solved.{solved, same, higher_left, higher_right, left, right, left_inside, right_inside, parts, clash}
use Rattle.unifier_model.specs.Unifier.IsClash.{ints, atoms, names, counts, int_atom, atom_int, int_comp, comp_int, atom_comp, comp_atom}
use Rattle.unifier_model.specs.Mgu.{Move, at_variable, move, after_move, pass, weight, solve, occurs_in, tally, live, top, top_all, top_in, mgu}
use Rattle.unifier_model.specs.Mgu.Move.{stop, turn, bind}

pub size_pos : (t : Tree ℕ) → 0 < size t
size_pos (var n) = omega arith
size_pos (int z) = omega arith
size_pos (atom a) = omega arith
size_pos (comp f ts) = omega arith

or_cases : (a b : Bool) → (a || b) ≡ true → (a ≡ true) ⊎ (b ≡ true)
or_cases true b h = inl refl
or_cases false b h = inr h

or_left : (a b : Bool) → a ≡ true → (a || b) ≡ true
or_left a b h = rw h

or_right : (a b : Bool) → b ≡ true → (a || b) ≡ true
or_right true b h = refl
or_right false b h = h

or_false : (a b : Bool) → a ≡ false → b ≡ false → (a || b) ≡ false
or_false a b h g = rw h g

-- what occurs after a replacement occurred before it
mutual
  replace-occurs : (j n : ℕ) (t u : Tree ℕ) → occurs j (replace n t u) ≡ true → (occurs j u ≡ true) ⊎ (occurs j t ≡ true)
  replace-occurs j n t (var m) o = go (nat_eq n m) o
    where
      go : (b : Bool) → occurs j (if b then t else var m) ≡ true → (nat_eq j m ≡ true) ⊎ (occurs j t ≡ true)
      go true o = inr o
      go false o = inl o
  replace-occurs j n t (int z) o = cc
  replace-occurs j n t (atom a) o = cc
  replace-occurs j n t (comp f us) o = replace_all-occurs j n t us o

  replace_all-occurs : (j n : ℕ) (t : Tree ℕ) (us : Trees ℕ) → occurs_any j (replace_all n t us) ≡ true → (occurs_any j us ≡ true) ⊎ (occurs j t ≡ true)
  replace_all-occurs j n t nil o = cc
  replace_all-occurs j n t (cons u us) o = go (or_cases (occurs j (replace n t u)) (occurs_any j (replace_all n t us)) o) (replace-occurs j n t u) (replace_all-occurs j n t us)
    where
      head : (occurs j u ≡ true) ⊎ (occurs j t ≡ true) → ((occurs j u || occurs_any j us) ≡ true) ⊎ (occurs j t ≡ true)
      head (inl h) = inl (or_left (occurs j u) (occurs_any j us) h)
      head (inr h) = inr h

      rest : (occurs_any j us ≡ true) ⊎ (occurs j t ≡ true) → ((occurs j u || occurs_any j us) ≡ true) ⊎ (occurs j t ≡ true)
      rest (inl h) = inl (or_right (occurs j u) (occurs_any j us) h)
      rest (inr h) = inr h

      go : (occurs j (replace n t u) ≡ true) ⊎ (occurs_any j (replace_all n t us) ≡ true) → (occurs j (replace n t u) ≡ true → (occurs j u ≡ true) ⊎ (occurs j t ≡ true))
          → (occurs_any j (replace_all n t us) ≡ true → (occurs_any j us ≡ true) ⊎ (occurs j t ≡ true)) → ((occurs j u || occurs_any j us) ≡ true) ⊎ (occurs j t ≡ true)
      go (inl h) f g = head (f h)
      go (inr h) f g = rest (g h)

-- a replaced variable is gone
mutual
  replace-gone : (n : ℕ) (t u : Tree ℕ) → occurs n t ≡ false → occurs n (replace n t u) ≡ false
  replace-gone n t (var m) o = go (nat_eq n m) refl
    where
      go : (b : Bool) → nat_eq n m ≡ b → occurs n (if b then t else var m) ≡ false
      go true e = o
      go false e = e
  replace-gone n t (int z) o = refl
  replace-gone n t (atom a) o = refl
  replace-gone n t (comp f us) o = replace_all-gone n t us o

  replace_all-gone : (n : ℕ) (t : Tree ℕ) (us : Trees ℕ) → occurs n t ≡ false → occurs_any n (replace_all n t us) ≡ false
  replace_all-gone n t nil o = refl
  replace_all-gone n t (cons u us) o = or_false (occurs n (replace n t u)) (occurs_any n (replace_all n t us)) (replace-gone n t u o) (replace_all-gone n t us o)

replaced-occurs : (j n : ℕ) (t : Tree ℕ) (es : List (Tree ℕ × Tree ℕ)) → occurs_in j (replaced n t es) ≡ true → (occurs_in j es ≡ true) ⊎ (occurs j t ≡ true)
replaced-occurs j n t [] o = cc
replaced-occurs j n t (e ∷ es) o = go (or_cases (occurs j (replace n t e.0) || occurs j (replace n t e.1)) (occurs_in j (replaced n t es)) o) (replaced-occurs j n t es)
  where
    here : Bool
    here = occurs j e.0 || occurs j e.1

    one : (occurs j e.0 ≡ true) ⊎ (occurs j t ≡ true) → (((occurs j e.0 || occurs j e.1) || occurs_in j es) ≡ true) ⊎ (occurs j t ≡ true)
    one (inl h) = inl (or_left (occurs j e.0 || occurs j e.1) (occurs_in j es) (or_left (occurs j e.0) (occurs j e.1) h))
    one (inr h) = inr h

    two : (occurs j e.1 ≡ true) ⊎ (occurs j t ≡ true) → (((occurs j e.0 || occurs j e.1) || occurs_in j es) ≡ true) ⊎ (occurs j t ≡ true)
    two (inl h) = inl (or_left (occurs j e.0 || occurs j e.1) (occurs_in j es) (or_right (occurs j e.0) (occurs j e.1) h))
    two (inr h) = inr h

    rest : (occurs_in j es ≡ true) ⊎ (occurs j t ≡ true) → (((occurs j e.0 || occurs j e.1) || occurs_in j es) ≡ true) ⊎ (occurs j t ≡ true)
    rest (inl h) = inl (or_right (occurs j e.0 || occurs j e.1) (occurs_in j es) h)
    rest (inr h) = inr h

    sides : (occurs j (replace n t e.0) ≡ true) ⊎ (occurs j (replace n t e.1) ≡ true) → (((occurs j e.0 || occurs j e.1) || occurs_in j es) ≡ true) ⊎ (occurs j t ≡ true)
    sides (inl h) = one (replace-occurs j n t e.0 h)
    sides (inr h) = two (replace-occurs j n t e.1 h)

    go : ((occurs j (replace n t e.0) || occurs j (replace n t e.1)) ≡ true) ⊎ (occurs_in j (replaced n t es) ≡ true) → (occurs_in j (replaced n t es) ≡ true → (occurs_in j es ≡ true) ⊎ (occurs j t ≡ true))
        → (((occurs j e.0 || occurs j e.1) || occurs_in j es) ≡ true) ⊎ (occurs j t ≡ true)
    go (inl h) f = sides (or_cases (occurs j (replace n t e.0)) (occurs j (replace n t e.1)) h)
    go (inr h) f = rest (f h)

replaced-gone : (n : ℕ) (t : Tree ℕ) (es : List (Tree ℕ × Tree ℕ)) → occurs n t ≡ false → occurs_in n (replaced n t es) ≡ false
replaced-gone n t [] o = refl
replaced-gone n t (e ∷ es) o =
    or_false (occurs n (replace n t e.0) || occurs n (replace n t e.1)) (occurs_in n (replaced n t es))
    (or_false (occurs n (replace n t e.0)) (occurs n (replace n t e.1)) (replace-gone n t e.0 o) (replace-gone n t e.1 o)) (replaced-gone n t es o)

pairs-occurs : (j : ℕ) (ts us : Trees ℕ) (es : List (Tree ℕ × Tree ℕ)) → occurs_in j (pairs ts us es) ≡ true → ((occurs_any j ts || occurs_any j us) || occurs_in j es) ≡ true
pairs-occurs j nil us es o = or_right (occurs_any j us) (occurs_in j es) o
pairs-occurs j (cons t ts) nil es o = or_right ((occurs j t || occurs_any j ts) || false) (occurs_in j es) o
pairs-occurs j (cons t ts) (cons u us) es o = go (occurs j t) (occurs_any j ts) (occurs j u) (occurs_any j us) (occurs_in j es) (occurs_in j (pairs ts us es)) (pairs-occurs j ts us es) o
  where
    go : (a b c d e p : Bool) → (p ≡ true → ((b || d) || e) ≡ true) → ((a || c) || p) ≡ true → (((a || b) || (c || d)) || e) ≡ true
    go true b c d e p f o = refl
    go false true c d e p f o = refl
    go false false true d e p f o = refl
    go false false false d e p f o = f o

tally-le : (k : ℕ) (p q : ℕ → Bool) → ((j : ℕ) → p j ≡ true → q j ≡ true) → tally k p ≤ tally k q
tally-le zero p q h = omega arith
tally-le (suc k) p q h = go (p k) (q k) (h k) (tally-le k p q h)
  where
    go : (a b : Bool) → (a ≡ true → b ≡ true) → tally k p ≤ tally k q → (if a then 1 else 0) + tally k p ≤ (if b then 1 else 0) + tally k q
    go true true f le = omega arith
    go true false f le = absurd (false≢true (f refl))
    go false true f le = omega arith
    go false false f le = omega arith

tally-less : (k : ℕ) (p q : ℕ → Bool) (n : ℕ) → n < k → p n ≡ false → q n ≡ true → ((j : ℕ) → p j ≡ true → q j ≡ true) → tally k p < tally k q
tally-less zero p q n l a b h = absurd (omega arith)
tally-less (suc k) p q n l a b h = go (cases_eq n k) (λ l'. tally-less k p q n l' a b h)
  where
    low : (x y : Bool) → (x ≡ true → y ≡ true) → tally k p < tally k q → (if x then 1 else 0) + tally k p < (if y then 1 else 0) + tally k q
    low true true f le = omega arith
    low true false f le = absurd (false≢true (f refl))
    low false true f le = omega arith
    low false false f le = omega arith

    go : (n ≡ k) ⊎ (n ≡ k → ⊥) → (n < k → tally k p < tally k q) → (if p k then 1 else 0) + tally k p < (if q k then 1 else 0) + tally k q
    go (inl e) rec =
        let a' : p k ≡ false = subst (λ m. p m ≡ false) e a in
        let b' : q k ≡ true = subst (λ m. q m ≡ true) e b in
        rw (a', b') (omega (arith, tally-le k p q h))
    go (inr ne) rec = low (p k) (q k) (h k) (rec (omega arith))

weight-pairs : (ts us : Trees ℕ) (es : List (Tree ℕ × Tree ℕ)) → weight (pairs ts us es) ≤ (sizes ts + sizes us) + weight es
weight-pairs nil us es = omega arith
weight-pairs (cons t ts) nil es = omega arith
weight-pairs (cons t ts) (cons u us) es = omega (arith, weight-pairs ts us es)

int_cases : (x y : ℤ) → (x ≡ y) ⊎ (x ≢ y)
int_cases (pos m) (pos n) = go (cases_eq m n)
  where
    go : (m ≡ n) ⊎ (m ≡ n → ⊥) → (pos m ≡ pos n) ⊎ (pos m ≢ pos n)
    go (inl e) = inl (ap pos e)
    go (inr ne) = inr (λ e. ne cc)
int_cases (pos m) (negsuc n) = inr (λ e. cc)
int_cases (negsuc m) (pos n) = inr (λ e. cc)
int_cases (negsuc m) (negsuc n) = go (cases_eq m n)
  where
    go : (m ≡ n) ⊎ (m ≡ n → ⊥) → (negsuc m ≡ negsuc n) ⊎ (negsuc m ≢ negsuc n)
    go (inl e) = inl (ap negsuc e)
    go (inr ne) = inr (λ e. ne cc)

bool_cases : (b : Bool) → (b ≡ true) ⊎ (b ≡ false)
bool_cases true = inl refl
bool_cases false = inr refl

apart : (n m : ℕ) → n ≢ m → nat_eq n m ≡ false
apart n m ne = search (arith, ne)

int_eq-same : (x y : ℤ) → x ≡ y → int_eq x y ≡ true
int_eq-same x y e = search (rules, Decides-int_eq)

int_eq-apart : (x y : ℤ) → x ≢ y → int_eq x y ≡ false
int_eq-apart x y ne = search (rules, Decides-int_eq)

-- all variables are below the number
abbrev Within : ℕ → List (Tree ℕ × Tree ℕ) → Type 0
Within k es = (j : ℕ) → occurs_in j es ≡ true → j < k

-- what a move keeps, and what it takes away
abbrev IsMove : List (Tree ℕ × Tree ℕ) → Move ℕ → Type 0
IsMove es (stop a) = Solved es a
IsMove es (turn es') =
    ((a : Option (List (ℕ × Tree ℕ))) → Solved es' a → Solved es a) × ((j : ℕ) → occurs_in j es' ≡ true → occurs_in j es ≡ true) × (weight es' < weight es)
IsMove es (bind n t es') =
    ((a : Option (List (ℕ × Tree ℕ))) → Solved (replaced n t es') a → Solved es (binding n t a)) × (occurs n t ≡ false) × (occurs_in n es ≡ true)
    × ((j : ℕ) → occurs_in j (replaced n t es') ≡ true → occurs_in j es ≡ true)

module _ (es : List (Tree ℕ × Tree ℕ)) where
  -- the variable n is replaced by t, which does not have it
  binds : (n : ℕ) (t l r : Tree ℕ) → occurs n t ≡ false → (occurs n l || occurs n r) ≡ true → ((j : ℕ) → occurs j t ≡ true → (occurs j l || occurs j r) ≡ true)
      → ((a : Option (List (ℕ × Tree ℕ))) → Solved (replaced n t es) a → Solved ((l, r) ∷ es) (binding n t a)) → IsMove ((l, r) ∷ es) (bind n t es)
  binds n t l r o here there step = (step, o, or_left (occurs n l || occurs n r) (occurs_in n es) here, λ j h. go j (replaced-occurs j n t es h))
    where
      go : (j : ℕ) → (occurs_in j es ≡ true) ⊎ (occurs j t ≡ true) → ((occurs j l || occurs j r) || occurs_in j es) ≡ true
      go j (inl h) = or_right (occurs j l || occurs j r) (occurs_in j es) h
      go j (inr h) = or_left (occurs j l || occurs j r) (occurs_in j es) (there j h)

  drops : (l r : Tree ℕ) → l ≡ r → IsMove ((l, r) ∷ es) (turn es)
  drops l r e = (
    λ a h. subst (λ x. Solved ((l, x) ∷ es) a) e (same h),
    λ j h. or_right (occurs j l || occurs j r) (occurs_in j es) h,
    omega (arith, size_pos l, size_pos r),
  )

  var_other : (n : ℕ) (t : Tree ℕ) → IsOther t → IsMove ((var n, t) ∷ es) (at_variable n t es)
  var_other n t other = go (occurs n t) refl
    where
      go : (b : Bool) → occurs n t ≡ b → IsMove ((var n, t) ∷ es) (if b then stop None else bind n t es)
      go true o = left_inside other o
      go false o = binds n t (var n) t o (or_left (nat_eq n n) (occurs n t) (eq-eqb n n refl)) (λ j h. or_right (nat_eq j n) (occurs j t) h) (λ a h. left other o h)

  other_var : (n : ℕ) (t : Tree ℕ) → IsOther t → IsMove ((t, var n) ∷ es) (at_variable n t es)
  other_var n t other = go (occurs n t) refl
    where
      go : (b : Bool) → occurs n t ≡ b → IsMove ((t, var n) ∷ es) (if b then stop None else bind n t es)
      go true o = right_inside other o
      go false o = binds n t t (var n) o (or_right (occurs n t) (nat_eq n n) (eq-eqb n n refl)) (λ j h. or_left (occurs j t) (nat_eq j n) h) (λ a h. right other o h)

  two_vars : (n m : ℕ) → IsMove ((var n, var m) ∷ es) (if nat_lt m n then bind n (var m) es else (if nat_lt n m then bind m (var n) es else turn es))
  two_vars n m = go (nat_lt m n) refl (nat_lt n m) refl
    where
      go : (b : Bool) → nat_lt m n ≡ b → (d : Bool) → nat_lt n m ≡ d → IsMove ((var n, var m) ∷ es) (if b then bind n (var m) es else (if d then bind m (var n) es else turn es))
      go true e d f =
          let lt : m < n = ltb-true m n e in
          binds n (var m) (var n) (var m) (apart n m (omega arith)) (or_left (nat_eq n n) (nat_eq n m) (eq-eqb n n refl)) (λ j h. or_right (nat_eq j n) (nat_eq j m) h) (λ a h. higher_left lt h)
      go false e true f =
          let lt : n < m = ltb-true n m f in
          binds m (var n) (var n) (var m) (apart m n (omega arith)) (or_right (nat_eq m n) (nat_eq m m) (eq-eqb m m refl)) (λ j h. or_left (nat_eq j n) (nat_eq j m) h) (λ a h. higher_right lt h)
      go false e false f = let q : n ≡ m = omega (arith, ltb-false m n e, ltb-false n m f) in drops (var n) (var m) (ap var q)

  two_ints : (x y : ℤ) → IsMove ((int x, int y) ∷ es) (if int_eq x y then turn es else stop None)
  two_ints x y = go (int_cases x y)
    where
      go : (x ≡ y) ⊎ (x ≢ y) → IsMove ((int x, int y) ∷ es) (if int_eq x y then turn es else stop None)
      go (inl e) = subst (λ b. IsMove ((int x, int y) ∷ es) (if b then turn es else stop None)) (sym (int_eq-same x y e)) (drops (int x) (int y) (ap int e))
      go (inr ne) = subst (λ b. IsMove ((int x, int y) ∷ es) (if b then turn es else stop None)) (sym (int_eq-apart x y ne)) (clash (ints ne))

  two_atoms : (a b : ℕ) → IsMove ((atom a, atom b) ∷ es) (if nat_eq a b then turn es else stop None)
  two_atoms a b = go (cases_eq a b)
    where
      go : (a ≡ b) ⊎ (a ≢ b) → IsMove ((atom a, atom b) ∷ es) (if nat_eq a b then turn es else stop None)
      go (inl e) = subst (λ x. IsMove ((atom a, atom b) ∷ es) (if x then turn es else stop None)) (sym (eq-eqb a b e)) (drops (atom a) (atom b) (ap atom e))
      go (inr ne) = subst (λ x. IsMove ((atom a, atom b) ∷ es) (if x then turn es else stop None)) (sym (apart a b ne)) (clash (atoms ne))

  two_comps : (f g : ℕ) (ts us : Trees ℕ) → IsMove ((comp f ts, comp g us) ∷ es) (if nat_eq f g && nat_eq (count ts) (count us) then turn (pairs ts us es) else stop None)
  two_comps f g ts us = go (cases_eq f g) (cases_eq (count ts) (count us))
    where
      at : (b d : Bool) → nat_eq f g ≡ b → nat_eq (count ts) (count us) ≡ d → IsMove ((comp f ts, comp g us) ∷ es) (if b && d then turn (pairs ts us es) else stop None)
          → IsMove ((comp f ts, comp g us) ∷ es) (if nat_eq f g && nat_eq (count ts) (count us) then turn (pairs ts us es) else stop None)
      at b d e h x =
          subst (λ z. IsMove ((comp f ts, comp g us) ∷ es) (if z && nat_eq (count ts) (count us) then turn (pairs ts us es) else stop None)) (sym e)
          (subst (λ z. IsMove ((comp f ts, comp g us) ∷ es) (if b && z then turn (pairs ts us es) else stop None)) (sym h) x)

      go : (f ≡ g) ⊎ (f ≢ g) → (count ts ≡ count us) ⊎ (count ts ≢ count us) → IsMove ((comp f ts, comp g us) ∷ es) (if nat_eq f g && nat_eq (count ts) (count us) then turn (pairs ts us es) else stop None)
      go (inr ne) c = at false (nat_eq (count ts) (count us)) (apart f g ne) refl (clash (names ne))
      go (inl e) (inr ne) = at true false (eq-eqb f g e) (apart (count ts) (count us) ne) (clash (counts ne))
      go (inl e) (inl c) = at true true (eq-eqb f g e) (eq-eqb (count ts) (count us) c) (
        λ a h. subst (λ x. Solved ((comp f ts, comp x us) ∷ es) a) e (parts c h),
        λ j h. pairs-occurs j ts us es h,
        omega (arith, weight-pairs ts us es),
      )

moves : (es : List (Tree ℕ × Tree ℕ)) → IsMove es (move nat_eq es)
moves [] = solved
moves ((var n, var m) ∷ es) = two_vars es n m
moves ((var n, int z) ∷ es) = var_other es n (int z) tt
moves ((var n, atom a) ∷ es) = var_other es n (atom a) tt
moves ((var n, comp f ts) ∷ es) = var_other es n (comp f ts) tt
moves ((int z, var n) ∷ es) = other_var es n (int z) tt
moves ((int x, int y) ∷ es) = two_ints es x y
moves ((int x, atom a) ∷ es) = clash int_atom
moves ((int x, comp f ts) ∷ es) = clash int_comp
moves ((atom a, var n) ∷ es) = other_var es n (atom a) tt
moves ((atom a, int y) ∷ es) = clash atom_int
moves ((atom a, atom b) ∷ es) = two_atoms es a b
moves ((atom a, comp f ts) ∷ es) = clash atom_comp
moves ((comp f ts, var n) ∷ es) = other_var es n (comp f ts) tt
moves ((comp f ts, int y) ∷ es) = clash comp_int
moves ((comp f ts, atom b) ∷ es) = clash comp_atom
moves ((comp f ts, comp g us) ∷ es) = two_comps es f g ts us

-- what a pass gives is the answer, if what goes on after a replacement is
pass-solved : (k v : ℕ) (next : List (Tree ℕ × Tree ℕ) → Option (List (ℕ × Tree ℕ))) → ((es : List (Tree ℕ × Tree ℕ)) → Within k es → live k es < v → Solved es (next es))
    → (w : ℕ) (es : List (Tree ℕ × Tree ℕ)) → Within k es → live k es ≤ v → weight es < w → Solved es (pass nat_eq w next es)
pass-solved k v next fewer zero es within few light = absurd (omega arith)
pass-solved k v next fewer (suc w) es within few light = step (move nat_eq es) (moves es) (pass-solved k v next fewer w)
  where
    step : (m : Move ℕ) → IsMove es m → ((es' : List (Tree ℕ × Tree ℕ)) → Within k es' → live k es' ≤ v → weight es' < w → Solved es' (pass nat_eq w next es')) → Solved es (after_move (pass nat_eq w next) next m)
    step (stop a) h on = h
    step (turn es') h on =
        h.0 (pass nat_eq w next es') (on es' (λ j o. within j (h.1 j o)) (omega (arith, tally-le k (λ j. occurs_in j es') (λ j. occurs_in j es) h.1)) (omega (arith, h.2)))
    step (bind n t es') h on =
        let smaller : live k (replaced n t es') < live k es = tally-less k (λ j. occurs_in j (replaced n t es')) (λ j. occurs_in j es) n (within n h.2) (replaced-gone n t es' h.1) h.2 h.3 in
        h.0 (next (replaced n t es')) (fewer (replaced n t es') (λ j o. within j (h.3 j o)) (omega arith))

solve-solved : (k v : ℕ) (es : List (Tree ℕ × Tree ℕ)) → Within k es → live k es ≤ v → Solved es (solve nat_eq v es)
solve-solved k zero es within few = pass-solved k zero (λ _. None) (λ es' a b. absurd (omega arith)) (suc (weight es)) es within few (omega arith)
solve-solved k (suc v) es within few = pass-solved k (suc v) (solve nat_eq v) (λ es' a b. solve-solved k v es' a (omega arith)) (suc (weight es)) es within few (omega arith)

mutual
  occurs-top : (j : ℕ) (t : Tree ℕ) → occurs j t ≡ true → j < top t
  occurs-top j (var n) o = let e : j ≡ n = eqb-true j n o in omega arith
  occurs-top j (int z) o = cc
  occurs-top j (atom a) o = cc
  occurs-top j (comp f ts) o = occurs-top_all j ts o

  occurs-top_all : (j : ℕ) (ts : Trees ℕ) → occurs_any j ts ≡ true → j < top_all ts
  occurs-top_all j nil o = cc
  occurs-top_all j (cons t ts) o = go (or_cases (occurs j t) (occurs_any j ts) o) (occurs-top j t) (occurs-top_all j ts)
    where
      go : (occurs j t ≡ true) ⊎ (occurs_any j ts ≡ true) → (occurs j t ≡ true → j < top t) → (occurs_any j ts ≡ true → j < top_all ts) → j < max (top t) (top_all ts)
      go (inl h) f g = omega (arith, f h)
      go (inr h) f g = omega (arith, g h)

occurs-top_in : (es : List (Tree ℕ × Tree ℕ)) (j : ℕ) → occurs_in j es ≡ true → j < top_in es
occurs-top_in [] j o = cc
occurs-top_in (e ∷ es) j o = go (or_cases (occurs j e.0 || occurs j e.1) (occurs_in j es) o) (occurs-top_in es j)
  where
    sides : (occurs j e.0 ≡ true) ⊎ (occurs j e.1 ≡ true) → j < max (max (top e.0) (top e.1)) (top_in es)
    sides (inl h) = omega (arith, occurs-top j e.0 h)
    sides (inr h) = omega (arith, occurs-top j e.1 h)

    go : ((occurs j e.0 || occurs j e.1) ≡ true) ⊎ (occurs_in j es ≡ true) → (occurs_in j es ≡ true → j < top_in es) → j < max (max (top e.0) (top e.1)) (top_in es)
    go (inl h) f = sides (or_cases (occurs j e.0) (occurs j e.1) h)
    go (inr h) f = omega (arith, f h)

-- `mgu` gives what the steps give
pub Solved-mgu : (es : List (Tree ℕ × Tree ℕ)) → Solved es (mgu es)
unfolding mgu
Solved-mgu es = solve-solved (top_in es) (live (top_in es) es) es (occurs-top_in es) (omega arith)
