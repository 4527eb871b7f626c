-- The numbers of the control constructs' names.
use Rattle.std.proofs.Common.{ℕ}
use Rattle.builtin_model.specs.Naming.{Naming}
use Rattle.goal_code.specs.Denotation.{AreControlNames}
use Rattle.goal_constructs.specs.Constructs.{AreConstructs}
use Rattle.goal_constructs.specs.declared.constructs.Constructs.{Constructs}

pub control_names : (n : Naming ℕ) (c : Constructs) → AreConstructs n c → AreControlNames n c.names.control
control_names n c are = record {
  conjunction = are.names.conjunction.known;
  disjunction = are.names.disjunction.known;
  implication = are.names.implication.known;
  cut = are.names.cut.known;
  truth = are.names.truth.known;
}
