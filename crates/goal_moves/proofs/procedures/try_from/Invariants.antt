use Rattle.std.proofs.Common.{◌≡◌, ℕ, ◌-◌, length}
use Rattle.solver_model.specs.Configurations.{Turns}
use Rattle.pl_store.specs.Runs.{program_of}
use Rattle.goal_state.specs.Denotation.{linked, naming, language_of, state_of}
use Rattle.goal_moves.specs.Moves.{tried, IsTrying}
use Rattle.goal_moves.specs.Untried.{behind_taken, clause_alternatives}
use Rattle.goal_moves.proofs.procedures.try_from.Given as goal

abbrev pub invariant-loop-next : goal.invariant-loop-next
invariant-loop-next l = record {
  trying : IsTrying l.compiled l.path l.attempt l.clause.0;
  state : state_of l.path ≡ state_of l.initial.path;
  choices : l.path.choices ≡ l.initial.path.choices;
  depth : l.path.depth ≡ l.initial.path.depth;
  width : l.path.width ≡ l.initial.path.width;
  behind : behind_taken (naming l.compiled) (program_of (linked l.compiled)).clauses (clause_alternatives l.compiled l.initial.path l.attempt l.initial.clause.0)
      ≡ behind_taken (naming l.compiled) (program_of (linked l.compiled)).clauses (clause_alternatives l.compiled l.path l.attempt l.clause.0);
  goes : (left : ℕ) → Turns (language_of l.compiled) (tried l.compiled l.initial.path l.attempt l.initial.clause.0 left) (tried l.compiled l.path l.attempt l.clause.0 left);
}

abbrev pub decreases-loop-next : goal.decreases-loop-next
decreases-loop-next l = length (linked l.compiled).clauses - l.clause.0
