-- The goals of a body, and which of them are control constructs that have instructions of their own.
use Rattle.std.specs.Prelude.{ℕ, List, [], ◌∷◌, ◌++◌, Bool, false, nat_eq, if◌then◌else◌}
use Rattle.pl_terms.specs.Trees.{Tree, atom, comp, nil, cons}
use Rattle.goal_code.specs.declared.shape.ControlNames.{ControlNames}

pub data Shape : Type 0 where
  conjunction : Tree ℕ → Tree ℕ → Shape
  disjunction : Tree ℕ → Tree ℕ → Shape
  if_then_else : Tree ℕ → Tree ℕ → Tree ℕ → Shape
  if_then : Tree ℕ → Tree ℕ → Shape
  cut : Shape
  other : Shape

-- a disjunction with an if-then on the left is an if-then-else
abbrev pub disjunction_shape : ControlNames → Tree ℕ → Tree ℕ → Shape
disjunction_shape s (comp f (cons c (cons t nil))) u =
    if nat_eq f s.implication.0 then if_then_else c t u else disjunction (comp f (cons c (cons t nil))) u
disjunction_shape s t u = disjunction t u

abbrev pub binary_shape : ControlNames → ℕ → Tree ℕ → Tree ℕ → Shape
binary_shape s f l r =
    if nat_eq f s.conjunction.0 then conjunction l r
    else if nat_eq f s.disjunction.0 then disjunction_shape s l r
    else if nat_eq f s.implication.0 then if_then l r
    else other

abbrev pub shape_of : ControlNames → Tree ℕ → Shape
shape_of s (atom a) = if nat_eq a s.cut.0 then cut else other
shape_of s (comp f (cons l (cons r nil))) = binary_shape s f l r
shape_of s t = other

-- the goals of a conjunction
abbrev pub conjuncts : ControlNames → Tree ℕ → List (Tree ℕ)
conjuncts s (comp f (cons l (cons r nil))) =
    if nat_eq f s.conjunction.0 then conjuncts s l ++ conjuncts s r else comp f (cons l (cons r nil)) ∷ []
conjuncts s t = t ∷ []

abbrev pub is_truth : ControlNames → Tree ℕ → Bool
is_truth s (atom a) = nat_eq a s.truth.0
is_truth s t = false

-- the goals of a clause's body: none where it is `true`
abbrev pub body_goals : ControlNames → Tree ℕ → List (Tree ℕ)
body_goals s t = if is_truth s t then [] else conjuncts s t
