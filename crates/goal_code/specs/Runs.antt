-- What instructions stand for: the goals on the way from one place to another.
use Rattle.std.specs.Prelude.{◌≡◌, ℕ, zero, suc, ◌<◌, Bool, true, false, List, [], ◌∷◌, length, Option, Some, None, slice_get}
use Rattle.pl_terms.specs.Trees.{Tree}
use Rattle.pl_unify.specs.declared.code.CodeWord.{CodeWord}
use Rattle.pl_unify.specs.Code.{code_tree}
use Rattle.goal_code.specs.declared.instruction.Instruction.{Instruction}
use Rattle.goal_code.specs.declared.instruction.Instruction.TheVariants.{Goal, Cut, Either, If, EndIf}
use Rattle.goal_code.specs.declared.shape.ControlNames.{ControlNames}
use Rattle.goal_code.specs.Shapes.{Shape, disjunction, if_then_else, if_then, cut, other, shape_of, conjuncts, body_goals}

-- places are counted from 1
abbrev pub instruction_at : List Instruction → ℕ → Option Instruction
instruction_at code zero = None
instruction_at code (suc k) = slice_get code k

abbrev pub is_goal : Instruction → Bool
is_goal (EndIf n) = false
is_goal _ = true

abbrev pub next_of : Instruction → ℕ
next_of (Goal g n) = n
next_of (Cut g n) = n
next_of (Either g l r n) = n
next_of (If g c m o n) = n
next_of (EndIf n) = n

-- where the term of a goal stands
abbrev pub goal_of : Instruction → ℕ
goal_of (Goal g n) = g
goal_of (Cut g n) = g
goal_of (Either g l r n) = g
goal_of (If g c m o n) = g
goal_of (EndIf n) = 0

-- the goals from a place on are these, up to the place `stop`
abbrev pub IsRun : List CodeWord → List Instruction → ℕ → ℕ → List (Tree ℕ) → Type 0
IsRun ws code stop pc [] = pc ≡ stop
IsRun ws code stop pc (t ∷ ts) = elim (instruction_at code pc) as (λ _. Type 0) [
  | None ↦ ⊥
  | Some c ↦ (is_goal c ≡ true) × (next_of c < pc) × (code_tree ws (goal_of c) ≡ t) × IsRun ws code stop (next_of c) ts
]

module _ (s : ControlNames) (ws : List CodeWord) (code : List Instruction) where
  -- the goals from a place on are those of a term
  abbrev pub Runs : ℕ → ℕ → Tree ℕ → Type 0
  Runs stop pc t = IsRun ws code stop pc (conjuncts s t)

  -- an end of a condition that leads to the goals of a term
  abbrev pub EndsIf : ℕ → Tree ℕ → Option Instruction → Type 0
  EndsIf stop t (Some (EndIf n)) = Runs stop n t
  EndsIf stop t c = ⊥

  -- the parts of an instruction are those of its term
  abbrev pub HasParts : Instruction → Shape → Type 0
  HasParts (Goal g n) other = Unit {0}
  HasParts (Cut g n) cut = Unit {0}
  HasParts (Either g l r n) (disjunction x y) = Runs n l x × Runs n r y
  HasParts (If g c m (Some o) n) (if_then_else x y z) = Runs m c x × EndsIf n y (instruction_at code m) × Runs n o z
  HasParts (If g c m None n) (if_then x y) = Runs m c x × EndsIf n y (instruction_at code m)
  HasParts c x = ⊥

  -- an instruction is in order at a place
  abbrev pub Fits : ℕ → Instruction → Type 0
  Fits k c = (next_of c < k) × (is_goal c ≡ true → (goal_of c < length ws) × HasParts c (shape_of s (code_tree ws (goal_of c))))

  abbrev pub IsSound : Type 0
  IsSound = (k : ℕ) (c : Instruction) → instruction_at code k ≡ Some c → Fits k c

-- instructions that a body begins at a place, for the clause body t
pub record IsBody (s : ControlNames) (ws : List CodeWord) (code : List Instruction) (start : ℕ) (t : Tree ℕ) : Type 0 where
  pub sound : IsSound s ws code
  pub run : IsRun ws code 0 start (body_goals s t)
