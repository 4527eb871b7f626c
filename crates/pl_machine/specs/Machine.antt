-- Machines that a run makes.
use Rattle.std.specs.Prelude.{◌≡◌, ◌+◌, ◌^◌, ◌<◌, ◌≤◌}
use Rattle.std.specs.List.{All}
use Rattle.pl_ops.specs.Standard.{standard}
use Rattle.pl_ops.specs.Tables.{operator}
use Rattle.goal_state.specs.Well.{IsCompiled, IsWell}
use Rattle.goal_moves.specs.declared.going.Going.TheVariants as G
use Rattle.pl_machine.specs.declared.front.Front.TheVariants as F
use Rattle.pl_machine.specs.declared.machine.Machine.{Machine}
use Rattle.pl_machine.specs.declared.moves.Part.{Part}
use Rattle.pl_machine.specs.declared.moves.Part.TheVariants as P
use Rattle.pl_machine.specs.Fronts.{CallsFirst, HasFront}

-- a machine between two moves
pub record IsMachine (m : Machine) : Type 0 where
  pub compiled : IsCompiled m.compiled
  pub table : operator m.table ≡ operator standard
  pub well : IsWell m.compiled m.path
  pub room : m.path.depth + m.left < 2 ^ 64
  pub counted : m.left ≤ m.budget
  pub answers : m.answers < 2 ^ 64
  pub variables : All (λ v. v.number < m.path.width) m.variables.items

-- a goal stands first on a machine
abbrev pub GoalFirst : Machine → Type 0
GoalFirst m = (m.going ≡ G.On) × CallsFirst m.compiled m.path

-- where a part of a move waits, a goal stands first
abbrev pub IsWaiting : Machine → Part → Type 0
IsWaiting m (P.Waits stand) = (m.going ≡ G.On) × HasFront m.compiled m.path (F.Goal stand)
IsWaiting m part = Unit {0}
