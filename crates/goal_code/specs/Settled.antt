-- Bodies whose goals are known before they run: no variable stands where a control construct has a goal.
use Rattle.std.specs.Prelude.{◌≡◌, ℕ, List, map, Bool, true, false, ◌&&◌, ◌||◌, Some, nat_eq, if◌then◌else◌}
use Rattle.pl_terms.specs.Trees.{Tree, var, int, comp, nil, cons}
use Rattle.pl_unify.specs.declared.code.CodeWord.{CodeWord}
use Rattle.pl_unify.specs.Code.{code_tree}
use Rattle.unifier_model.specs.Substitution.{apply, raise}
use Rattle.builtin_model.specs.Naming.{Naming}
use Rattle.goal_model.specs.Environments.{Environment}
use Rattle.goal_model.specs.Bodies.{flat}
use Rattle.goal_model.specs.Rows.{Row, commit, if_then_else as if_then_else_row, if_then as if_then_row, either, row_of}
use Rattle.goal_code.specs.declared.instruction.Instruction.{Instruction}
use Rattle.goal_code.specs.declared.shape.ControlNames.{ControlNames}
use Rattle.goal_code.specs.Runs.{instruction_at, is_goal, goal_of}
use Rattle.goal_code.specs.Shapes.{Shape, conjunction, disjunction, if_then_else, if_then, cut, other, shape_of, conjuncts}
use Rattle.goal_code.specs.Denotation.{AreControlNames, called}

abbrev pub is_control : ControlNames → ℕ → Bool
is_control s f = nat_eq f s.conjunction.0 || (nat_eq f s.disjunction.0 || nat_eq f s.implication.0)

-- neither a variable nor an integer stands where a control construct has a goal
abbrev pub is_settled : ControlNames → Tree ℕ → Bool
is_settled s (var v) = false
is_settled s (int z) = false
is_settled s (comp f (cons l (cons r nil))) = if is_control s f then is_settled s l && is_settled s r else true
is_settled s t = true

-- the term at a place is settled
abbrev pub SettledAt : ControlNames → List CodeWord → ℕ → Type 0
SettledAt s ws p = is_settled s (code_tree ws p) ≡ true

-- the goals of instructions are settled
abbrev pub AreSettled : ControlNames → List CodeWord → List Instruction → Type 0
AreSettled s ws code = (k : ℕ) (c : Instruction) → instruction_at code k ≡ Some c → is_goal c ≡ true → SettledAt s ws (goal_of c)

-- a term of a clause, as it stands in a run
abbrev pub standing : List (ℕ × Tree ℕ) → ℕ → Tree ℕ → Tree ℕ
standing bs base t = apply bs (raise base t)

-- what a goal is in a run, by what it is in the clause
abbrev pub IsRow : (Tree ℕ → Tree ℕ) → Shape → Row ℕ → Type 0
IsRow up (disjunction x y) r = r ≡ either (up x) (up y)
IsRow up (if_then_else x y z) r = r ≡ if_then_else_row (up x) (up y) (up z)
IsRow up (if_then x y) r = r ≡ if_then_row (up x) (up y)
IsRow up cut r = r ≡ commit
IsRow up x r = Unit {0}

abbrev pub PartsSettled : ControlNames → Shape → Type 0
PartsSettled s (conjunction x y) = (is_settled s x ≡ true) × (is_settled s y ≡ true)
PartsSettled s (disjunction x y) = (is_settled s x ≡ true) × (is_settled s y ≡ true)
PartsSettled s (if_then_else x y z) = (is_settled s x ≡ true) × (is_settled s y ≡ true) × (is_settled s z ≡ true)
PartsSettled s (if_then x y) = (is_settled s x ≡ true) × (is_settled s y ≡ true)
PartsSettled s cut = Unit {0}
PartsSettled s other = Unit {0}

-- a settled goal is the same construct in each run
abbrev pub RowsStay : Type 0
RowsStay = (n : Naming ℕ) (s : ControlNames) → AreControlNames n s → (t : Tree ℕ) → is_settled s t ≡ true → (bs : List (ℕ × Tree ℕ)) (base : ℕ)
    → IsRow (standing bs base) (shape_of s t) (row_of n (standing bs base t)) × PartsSettled s (shape_of s t)

-- a settled body has the same goals in each run
abbrev pub GoalsStay : Type 0
GoalsStay = (n : Naming ℕ) (s : ControlNames) → AreControlNames n s → (t : Tree ℕ) → is_settled s t ≡ true → (bs : List (ℕ × Tree ℕ)) (base : ℕ) (env : Environment ℕ) (d : ℕ)
    → flat n (standing bs base t) env d ≡ map (λ u. called env d (standing bs base u)) (conjuncts s t)
