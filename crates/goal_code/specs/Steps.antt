-- What the steps of a compilation do.
use Rattle.std.specs.Prelude.{◌≡◌, ℕ, ◌∷◌, ◌++◌, [], length, reverse}
use Rattle.goal_code.specs.declared.instruction.Instruction.{Instruction}
use Rattle.goal_code.specs.declared.work.Task.{Task}
use Rattle.goal_code.specs.declared.work.Task.TheVariants.{Goals}
use Rattle.goal_code.specs.declared.work.Work.{Work}

-- the goals of a term come next, before what is at a place, and then a task
pub record IsLed (old new : Work) (task : Task) (goals place : ℕ) : Type 0 where
  pub instructions : new.instructions ≡ old.instructions
  pub tasks : reverse new.tasks.items ≡ Goals goals ∷ task ∷ reverse old.tasks.items
  pub at : new.at ≡ place

-- an instruction was put last
pub record IsAdded (old new : Work) (c : Instruction) : Type 0 where
  pub instructions : new.instructions.items ≡ old.instructions.items ++ c ∷ []
  pub tasks : new.tasks ≡ old.tasks
  pub at : new.at ≡ length new.instructions.items
