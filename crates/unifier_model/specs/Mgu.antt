-- The most general unifier as a function.
use Rattle.std.specs.Prelude.{ℕ, zero, suc, ◌+◌, max, List, [], ◌∷◌, Option, Some, None, Bool, false, nat_eq, nat_lt, ◌||◌, ◌&&◌, if◌then◌else◌}
use Rattle.std.specs.Ordering.{int_eq}
use Rattle.pl_terms.specs.Trees.{Tree, var, int, atom, comp, Trees, nil, cons, count}
use Rattle.unifier_model.specs.Substitution.{occurs, size}
use Rattle.unifier_model.specs.Unifier.{replaced, pairs, binding}

-- what the first of some equations calls for
pub data Move (N : Type 0) : Type 0 where
  -- all is answered
  stop : Option (List (ℕ × Tree N)) → Move N
  -- other equations stand for these
  turn : List (Tree N × Tree N) → Move N
  -- the variable is replaced by the tree, here and in the other equations
  bind : ℕ → Tree N → List (Tree N × Tree N) → Move N

-- a variable and a tree that is none
abbrev pub at_variable : {N : Type 0} → ℕ → Tree N → List (Tree N × Tree N) → Move N
at_variable n t es = if occurs n t then stop None else bind n t es

abbrev pub move : {N : Type 0} → (N → N → Bool) → List (Tree N × Tree N) → Move N
move same [] = stop (Some [])
move same ((var n, var m) ∷ es) = if nat_lt m n then bind n (var m) es else (if nat_lt n m then bind m (var n) es else turn es)
move same ((var n, int z) ∷ es) = at_variable n (int z) es
move same ((var n, atom a) ∷ es) = at_variable n (atom a) es
move same ((var n, comp f ts) ∷ es) = at_variable n (comp f ts) es
move same ((int z, var n) ∷ es) = at_variable n (int z) es
move same ((int x, int y) ∷ es) = if int_eq x y then turn es else stop None
move same ((int x, atom a) ∷ es) = stop None
move same ((int x, comp f ts) ∷ es) = stop None
move same ((atom a, var n) ∷ es) = at_variable n (atom a) es
move same ((atom a, int y) ∷ es) = stop None
move same ((atom a, atom b) ∷ es) = if same a b then turn es else stop None
move same ((atom a, comp f ts) ∷ es) = stop None
move same ((comp f ts, var n) ∷ es) = at_variable n (comp f ts) es
move same ((comp f ts, int y) ∷ es) = stop None
move same ((comp f ts, atom b) ∷ es) = stop None
move same ((comp f ts, comp g us) ∷ es) = if same f g && nat_eq (count ts) (count us) then turn (pairs ts us es) else stop None

-- `on` goes on with as many variables, `next` with one less
abbrev pub after_move : {N : Type 0} → (List (Tree N × Tree N) → Option (List (ℕ × Tree N))) → (List (Tree N × Tree N) → Option (List (ℕ × Tree N))) → Move N → Option (List (ℕ × Tree N))
after_move on next (stop a) = a
after_move on next (turn es) = on es
after_move on next (bind n t es) = binding n t (next (replaced n t es))

-- fewer than w moves up to a replacement
abbrev pub pass : {N : Type 0} → (N → N → Bool) → ℕ → (List (Tree N × Tree N) → Option (List (ℕ × Tree N))) → List (Tree N × Tree N) → Option (List (ℕ × Tree N))
pass same zero next es = None
pass same (suc w) next es = after_move (pass same w next) next (move same es)

-- how large the equations are
abbrev pub weight : {N : Type 0} → List (Tree N × Tree N) → ℕ
weight [] = 0
weight (e ∷ es) = (size e.0 + size e.1) + weight es

-- at most v replacements
abbrev pub solve : {N : Type 0} → (N → N → Bool) → ℕ → List (Tree N × Tree N) → Option (List (ℕ × Tree N))
solve same zero es = pass same (suc (weight es)) (λ _. None) es
solve same (suc v) es = pass same (suc (weight es)) (solve same v) es

-- whether a variable is in equations
abbrev pub occurs_in : {N : Type 0} → ℕ → List (Tree N × Tree N) → Bool
occurs_in j [] = false
occurs_in j (e ∷ es) = (occurs j e.0 || occurs j e.1) || occurs_in j es

-- how many numbers below k pass
abbrev pub tally : ℕ → (ℕ → Bool) → ℕ
tally zero p = 0
tally (suc k) p = (if p k then 1 else 0) + tally k p

-- how many variables below k are in equations
abbrev pub live : {N : Type 0} → ℕ → List (Tree N × Tree N) → ℕ
live k es = tally k (λ j. occurs_in j es)

-- a number above all variables
abbrev mutual
  pub top : {N : Type 0} → Tree N → ℕ
  top (var n) = n + 1
  top (int z) = 0
  top (atom a) = 0
  top (comp f ts) = top_all ts

  pub top_all : {N : Type 0} → Trees N → ℕ
  top_all nil = 0
  top_all (cons t ts) = max (top t) (top_all ts)

abbrev pub top_in : {N : Type 0} → List (Tree N × Tree N) → ℕ
top_in [] = 0
top_in (e ∷ es) = max (max (top e.0) (top e.1)) (top_in es)

-- The most general unifier of equations, as replacements made one after another, or None where they have no unifier;
-- `same` tells whether two names are one.
abbrev pub unifier : {N : Type 0} → (N → N → Bool) → List (Tree N × Tree N) → Option (List (ℕ × Tree N))
unifier same es = solve same (live (top_in es) es) es

-- the unifier where names are numbers
unfoldable pub mgu : List (Tree ℕ × Tree ℕ) → Option (List (ℕ × Tree ℕ))
mgu es = unifier nat_eq es
