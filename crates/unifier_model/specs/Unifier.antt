-- The most general unifier of equations, by the steps that find it (ISO/IEC 13211-1, 7.3.2).
use Rattle.std.specs.Prelude.{◌≡◌, ◌≢◌, ℕ, ℤ, ◌<◌, List, [], ◌∷◌, Option, Some, None, true, false}
use Rattle.pl_terms.specs.Trees.{Tree, var, int, atom, comp, Trees, nil, cons, count}
use Rattle.unifier_model.specs.Substitution.{replace, occurs}

-- equations with r for each variable of the number n
abbrev pub replaced : {N : Type 0} → ℕ → Tree N → List (Tree N × Tree N) → List (Tree N × Tree N)
replaced n r [] = []
replaced n r (e ∷ es) = (replace n r e.0, replace n r e.1) ∷ replaced n r es

-- the equations of arguments, in front of others
abbrev pub pairs : {N : Type 0} → Trees N → Trees N → List (Tree N × Tree N) → List (Tree N × Tree N)
pairs nil us es = es
pairs (cons t ts) nil es = es
pairs (cons t ts) (cons u us) es = (t, u) ∷ pairs ts us es

-- the answer with one replacement in front
abbrev pub binding : {N : Type 0} → ℕ → Tree N → Option (List (ℕ × Tree N)) → Option (List (ℕ × Tree N))
binding n t None = None
binding n t (Some bs) = Some ((n, t) ∷ bs)

-- a tree that is no variable
abbrev pub IsOther : {N : Type 0} → Tree N → Type 0
IsOther (var n) = ⊥
IsOther (int z) = Unit {0}
IsOther (atom a) = Unit {0}
IsOther (comp f ts) = Unit {0}

-- two trees whose roots differ, and of which none is a variable
pub data IsClash {N : Type 0} : Tree N → Tree N → Type 0 where
  ints : {x y : ℤ} → x ≢ y → IsClash (int x) (int y)
  atoms : {a b : N} → a ≢ b → IsClash (atom a) (atom b)
  names : {f g : N} {ts us : Trees N} → f ≢ g → IsClash (comp f ts) (comp g us)
  counts : {f g : N} {ts us : Trees N} → count ts ≢ count us → IsClash (comp f ts) (comp g us)
  int_atom : {x : ℤ} {b : N} → IsClash (int x) (atom b)
  atom_int : {a : N} {y : ℤ} → IsClash (atom a) (int y)
  int_comp : {x : ℤ} {g : N} {us : Trees N} → IsClash (int x) (comp g us)
  comp_int : {f : N} {ts : Trees N} {y : ℤ} → IsClash (comp f ts) (int y)
  atom_comp : {a g : N} {us : Trees N} → IsClash (atom a) (comp g us)
  comp_atom : {f b : N} {ts : Trees N} → IsClash (comp f ts) (atom b)

-- The unifier of equations, as replacements made one after another, or that there is none. Of two variables the
-- higher one is replaced.
pub data Solved {N : Type 0} : List (Tree N × Tree N) → Option (List (ℕ × Tree N)) → Type 0 where
  solved : Solved [] (Some [])
  same : {t : Tree N} {es : List (Tree N × Tree N)} {r : Option (List (ℕ × Tree N))} → Solved es r → Solved ((t, t) ∷ es) r
  higher_left : {n m : ℕ} {es : List (Tree N × Tree N)} {r : Option (List (ℕ × Tree N))} → m < n → Solved (replaced n (var m) es) r → Solved ((var n, var m) ∷ es) (binding n (var m) r)
  higher_right : {n m : ℕ} {es : List (Tree N × Tree N)} {r : Option (List (ℕ × Tree N))} → n < m → Solved (replaced m (var n) es) r → Solved ((var n, var m) ∷ es) (binding m (var n) r)
  left : {n : ℕ} {t : Tree N} {es : List (Tree N × Tree N)} {r : Option (List (ℕ × Tree N))} → IsOther t → occurs n t ≡ false → Solved (replaced n t es) r → Solved ((var n, t) ∷ es) (binding n t r)
  right : {n : ℕ} {t : Tree N} {es : List (Tree N × Tree N)} {r : Option (List (ℕ × Tree N))} → IsOther t → occurs n t ≡ false → Solved (replaced n t es) r → Solved ((t, var n) ∷ es) (binding n t r)
  left_inside : {n : ℕ} {t : Tree N} {es : List (Tree N × Tree N)} → IsOther t → occurs n t ≡ true → Solved ((var n, t) ∷ es) None
  right_inside : {n : ℕ} {t : Tree N} {es : List (Tree N × Tree N)} → IsOther t → occurs n t ≡ true → Solved ((t, var n) ∷ es) None
  parts : {f : N} {ts us : Trees N} {es : List (Tree N × Tree N)} {r : Option (List (ℕ × Tree N))} → count ts ≡ count us → Solved (pairs ts us es) r → Solved ((comp f ts, comp f us) ∷ es) r
  clash : {t u : Tree N} {es : List (Tree N × Tree N)} → IsClash t u → Solved ((t, u) ∷ es) None
