-- What the instructions of a clause lead to.
use Rattle.std.specs.Prelude.{ℕ, List}
use Rattle.clause_code.specs.declared.target.Target.{Target}

-- the module that defines the clause's procedure, and the targets of the instructions by their places
pub record Led : Type 0 where
  pub home : ℕ
  pub targets : List Target
