-- The terms of errors, by the numbers of their names, and the ends of lists.
use Rattle.std.specs.Prelude.{◌≡◌, ◌<◌, ℕ, pos, Bool, true, false, nat_eq, Option, Some, None, Result, Ok, Err, if◌then◌else◌}
use Rattle.pl_terms.specs.Trees.{Tree, var, int, atom, comp, nil, cons}
use Rattle.unifier_model.specs.Substitution.{size}
use Rattle.pl_unify.specs.declared.word.Ref.{Ref}
use Rattle.pl_unify.specs.State.{State, tree_at, IsRef}
use Rattle.goal_constructs.specs.declared.names.GoalNames.{GoalNames}

abbrev pub two : ℕ → Tree ℕ → Tree ℕ → Tree ℕ
two f t u = comp f (cons t (cons u nil))

abbrev pub indicator_by : GoalNames → ℕ → ℕ → Tree ℕ
indicator_by g f k = two g.slash.0 (atom f) (int (pos k))

abbrev pub error_by : GoalNames → Tree ℕ → ℕ → ℕ → Tree ℕ
error_by g formal f k = two g.error.0 formal (indicator_by g f k)

-- none where all is well with the term, or else the place of the ball
abbrev pub IsFault : State → Result (Tree ℕ) (Tree ℕ) → Tree ℕ → Option Ref → Type 0
IsFault s r t None = r ≡ Ok t
IsFault s r t (Some at) = IsRef s at × (r ≡ Err (tree_at s at))

-- what is left of a term behind the items of a list
abbrev pub after_cells : GoalNames → Tree ℕ → Tree ℕ
after_cells g (comp f (cons h (cons t nil))) = if nat_eq f g.dot.0 then after_cells g t else comp f (cons h (cons t nil))
after_cells g t = t

-- whether it ends a list or a partial list
abbrev pub ends_list : GoalNames → Tree ℕ → Bool
ends_list g (var v) = true
ends_list g (int z) = false
ends_list g (atom a) = nat_eq a g.nil.0
ends_list g (comp f ts) = false

abbrev pub IsRest : GoalNames → State → Tree ℕ → Option Ref → Type 0
IsRest g s t None = after_cells g t ≡ t
IsRest g s t (Some at) = IsRef s at × (after_cells g t ≡ after_cells g (tree_at s at)) × (size (tree_at s at) < size t)
