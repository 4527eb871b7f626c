-- A compiled body.
use Rattle.std.specs.Prelude.{ℕ, List}
use Rattle.goal_code.specs.declared.instruction.Instruction.{Instruction}

pub record Compiled : Type 0 where
  pub code : List Instruction
  pub start : ℕ
