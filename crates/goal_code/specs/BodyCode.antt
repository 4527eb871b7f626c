-- The code of a clause's body.
use Rattle.std.specs.Prelude.{List}
use Rattle.pl_unify.specs.declared.code.CodeWord.{CodeWord}
use Rattle.goal_code.specs.declared.instruction.Instruction.{Instruction}

-- a clause's body: its terms and its instructions
pub record BodyCode : Type 0 where
  pub words : List CodeWord
  pub code : List Instruction
