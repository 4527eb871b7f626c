-- What is still to be done of an expression, the next task first, over the numbers that are there, the last first.
use Rattle.std.specs.Prelude.{◌≡◌, ℕ, zero, suc, ℤ, ◌+◌, ◌*◌, ◌<◌, List, [], ◌∷◌, length, Result, Ok, Err}
use Rattle.unifier_model.specs.Substitution.{size}
use Rattle.pl_unify.specs.State.{State, tree_at, IsRef}
use Rattle.value_model.specs.declared.EvalFault.{EvalFault}
use Rattle.value_model.specs.declared.EvalFault.TheVariants.{NoMemory}
use Rattle.value_model.specs.declared.Unary.{Unary}
use Rattle.value_model.specs.declared.Binary.{Binary}
use Rattle.value_model.specs.Value.{value, apply_one, apply_two}
use Rattle.pl_arith.specs.declared.expression.Task.{Task}
use Rattle.pl_arith.specs.declared.expression.Task.TheVariants as T

-- a number in front of others
abbrev pub pushed : Result ℤ EvalFault → List ℤ → Result (List ℤ) EvalFault
pushed (Ok z) zs = Ok (z ∷ zs)
pushed (Err e) zs = Err e

abbrev pub done_one : Unary → List ℤ → Result (List ℤ) EvalFault
done_one op [] = Err NoMemory
done_one op (x ∷ zs) = pushed (apply_one op x) zs

abbrev pub done_two : Binary → List ℤ → Result (List ℤ) EvalFault
done_two op [] = Err NoMemory
done_two op (y ∷ []) = Err NoMemory
done_two op (y ∷ x ∷ zs) = pushed (apply_two op x y) zs

-- the numbers after a task
abbrev pub done : State → List (List ℕ) → Task → List ℤ → Result (List ℤ) EvalFault
done s names (T.Tree at) zs = pushed (value names (tree_at s at)) zs
done s names (T.One op) zs = done_one op zs
done s names (T.Two op) zs = done_two op zs

abbrev pub onwards : Result (List ℤ) EvalFault → (List ℤ → Result (List ℤ) EvalFault) → Result (List ℤ) EvalFault
onwards (Ok zs) next = next zs
onwards (Err e) next = Err e

-- the numbers after all tasks
abbrev pub run : State → List (List ℕ) → List Task → List ℤ → Result (List ℤ) EvalFault
run s names [] zs = Ok zs
run s names (t ∷ ts) zs = onwards (done s names t zs) (run s names ts)

-- the task is one on a place of the store
abbrev pub TaskOk : State → Task → Type 0
TaskOk s (T.Tree at) = IsRef s at
TaskOk s (T.One op) = Unit {0}
TaskOk s (T.Two op) = Unit {0}

abbrev pub TasksOk : State → List Task → Type 0
TasksOk s [] = Unit {0}
TasksOk s (t ∷ ts) = TaskOk s t × TasksOk s ts

-- over so many numbers, each task has those that it takes, and the last leaves one
abbrev pub LeavesOne : List Task → ℕ → Type 0
LeavesOne [] n = n ≡ 1
LeavesOne (T.Tree at ∷ ts) n = LeavesOne ts (suc n)
LeavesOne (T.One op ∷ ts) zero = ⊥
LeavesOne (T.One op ∷ ts) (suc n) = LeavesOne ts (suc n)
LeavesOne (T.Two op ∷ ts) zero = ⊥
LeavesOne (T.Two op ∷ ts) (suc zero) = ⊥
LeavesOne (T.Two op ∷ ts) (suc (suc n)) = LeavesOne ts (suc n)

abbrev pub weight : State → Task → ℕ
weight s (T.Tree at) = 2 * size (tree_at s at)
weight s (T.One op) = 1
weight s (T.Two op) = 1

abbrev pub weights : State → List Task → ℕ
weights s [] = 0
weights s (t ∷ ts) = weight s t + weights s ts

-- the tasks and numbers became others that end alike
pub record Stepped (s : State) (names : List (List ℕ)) (old : List Task) (had : List ℤ) (new : List Task) (has : List ℤ) : Type 0 where
  pub same : run s names new has ≡ run s names old had
  pub ok : TasksOk s old → TasksOk s new
  pub one_left : LeavesOne old (length had) → LeavesOne new (length has)
  pub smaller : weights s new < weights s old
