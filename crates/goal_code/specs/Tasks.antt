-- What is left to compile, and what it leads to.
use Rattle.std.specs.Prelude.{◌≡◌, ℕ, ◌+◌, ◌*◌, ◌<◌, ◌≤◌, List, [], ◌∷◌, ◌++◌, length, Some, None}
use Rattle.std.specs.List.{All}
use Rattle.pl_terms.specs.Trees.{Tree}
use Rattle.pl_unify.specs.declared.code.CodeWord.{CodeWord}
use Rattle.pl_unify.specs.Code.{code_tree}
use Rattle.unifier_model.specs.Substitution.{size}
use Rattle.goal_code.specs.declared.instruction.Instruction.{Instruction}
use Rattle.goal_code.specs.declared.shape.ControlNames.{ControlNames}
use Rattle.goal_code.specs.declared.work.Task.{Task}
use Rattle.goal_code.specs.declared.work.Task.TheVariants.{Goals, Left, Disjunction, Then, Condition, Conditional}
use Rattle.goal_code.specs.Shapes.{Shape, disjunction, if_then_else, if_then, shape_of, conjuncts}
use Rattle.goal_code.specs.Parts.{Stands}
use Rattle.goal_code.specs.Runs.{instruction_at, IsRun, Runs, EndsIf, IsSound}
use Rattle.goal_code.specs.Settled.{SettledAt, AreSettled}

-- how much is left to do, at most
abbrev pub weight : List CodeWord → Task → ℕ
weight ws (Goals p) = 4 * size (code_tree ws p)
weight ws (Left g l n) = 4 * size (code_tree ws l) + 2
weight ws (Disjunction g r n) = 1
weight ws (Then g c t n) = 4 * size (code_tree ws c) + (4 * size (code_tree ws t) + 3)
weight ws (Condition g c o n) = 4 * size (code_tree ws c) + 2
weight ws (Conditional g m o n) = 1

abbrev pub owed : List CodeWord → List Task → ℕ
owed ws [] = 0
owed ws (t ∷ ts) = weight ws t + owed ws ts

-- the task's own places of terms to compile are in the code
abbrev pub TaskIn : List CodeWord → Task → Type 0
TaskIn ws (Goals p) = p < length ws
TaskIn ws t = Unit {0}

-- where the term of a construct stands, and what follows the construct
abbrev pub term_of : Task → ℕ
term_of (Goals p) = p
term_of (Left g l n) = g
term_of (Disjunction g r n) = g
term_of (Then g c t n) = g
term_of (Condition g c o n) = g
term_of (Conditional g m o n) = g

abbrev pub after : Task → ℕ
after (Goals p) = 0
after (Left g l n) = n
after (Disjunction g r n) = n
after (Then g c t n) = n
after (Condition g c o n) = n
after (Conditional g m o n) = n

module _ (s : ControlNames) (ws : List CodeWord) (code : List Instruction) where
  -- the goals gs that were just compiled are a part of a construct, whose other parts are compiled or stand at places
  abbrev pub IsPart : Task → ℕ → List (Tree ℕ) → Shape → Type 0
  IsPart (Left g l n) stop gs (disjunction x y) = (stop ≡ n) × Stands ws l x × (gs ≡ conjuncts s y)
  IsPart (Disjunction g r n) stop gs (disjunction x y) = (stop ≡ n) × Runs s ws code n r y × (gs ≡ conjuncts s x)
  IsPart (Then g c t n) stop gs (if_then_else x y z) = (stop ≡ n) × Stands ws c x × Stands ws t y × (gs ≡ conjuncts s z)
  IsPart (Condition g c (Some o) n) stop gs (if_then_else x y z) = (stop ≡ n) × Stands ws c x × Runs s ws code n o z × (gs ≡ conjuncts s y)
  IsPart (Condition g c None n) stop gs (if_then x y) = (stop ≡ n) × Stands ws c x × (gs ≡ conjuncts s y)
  IsPart (Conditional g m (Some o) n) stop gs (if_then_else x y z) =
      (stop ≡ m) × EndsIf s ws code n y (instruction_at code m) × Runs s ws code n o z × (gs ≡ conjuncts s x)
  IsPart (Conditional g m None n) stop gs (if_then x y) = (stop ≡ m) × EndsIf s ws code n y (instruction_at code m) × (gs ≡ conjuncts s x)
  IsPart t stop gs x = ⊥

  -- the goals gs that stand up to a place become the goals `final` of the whole body, by these tasks, the next one first
  abbrev pub Awaits : List (Tree ℕ) → List Task → ℕ → List (Tree ℕ) → Type 0
  Awaits final [] stop gs = (stop ≡ 0) × (gs ≡ final)
  Awaits final (Goals p ∷ ts) stop gs = (p < length ws) × Awaits final ts stop (conjuncts s (code_tree ws p) ++ gs)
  Awaits final (t ∷ ts) stop gs =
      IsPart t stop gs (shape_of s (code_tree ws (term_of t))) × (term_of t < length ws) × (after t ≤ length code)
      × ((outer : ℕ) × (hs : List (Tree ℕ)) × IsRun ws code outer (after t) hs × Awaits final ts outer (code_tree ws (term_of t) ∷ hs))

-- a body is being compiled: what was compiled last begins at the place `at`
pub record UnderWay (s : ControlNames) (ws : List CodeWord) (final : List (Tree ℕ)) (code : List Instruction) (at : ℕ) (tasks : List Task) : Type 0 where
  pub stop : ℕ
  pub goals : List (Tree ℕ)
  pub low : at ≤ length code
  pub run : IsRun ws code stop at goals
  pub awaits : Awaits s ws code final tasks stop goals
  pub sound : IsSound s ws code

module _ (s : ControlNames) (ws : List CodeWord) where
  -- the construct of a task is settled, and its parts that are still to be compiled
  abbrev pub TaskSettled : Task → Type 0
  TaskSettled (Goals p) = SettledAt s ws p
  TaskSettled (Left g l n) = SettledAt s ws g × SettledAt s ws l
  TaskSettled (Disjunction g r n) = SettledAt s ws g
  TaskSettled (Then g c t n) = SettledAt s ws g × SettledAt s ws c × SettledAt s ws t
  TaskSettled (Condition g c o n) = SettledAt s ws g × SettledAt s ws c
  TaskSettled (Conditional g m o n) = SettledAt s ws g

-- what is compiled and what is left to compile is settled
pub record WorkSettled (s : ControlNames) (ws : List CodeWord) (code : List Instruction) (tasks : List Task) : Type 0 where
  pub goals : AreSettled s ws code
  pub left : All (TaskSettled s ws) tasks
