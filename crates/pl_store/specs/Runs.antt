-- A linked program as a search sees it.
use Rattle.std.specs.Prelude.{ℕ, List, [], map, filter, nat_eq, Bool, ◌||◌, Option, None, Some, position}
use Rattle.std.specs.Option.{option_map}
use Rattle.unit_model.specs.Facts.{Indicator}
use Rattle.goal_model.specs.Program.{Clause, Program}
use Rattle.pl_store.specs.Linked.{Linked, visible_in, is_procedure, procedure_at, is_module, is_system}

-- the number of a definer's procedure
abbrev pub number_of : Linked → ℕ → Indicator ℕ → Option ℕ
number_of l d i = position (is_procedure d i) l.procedures

abbrev pub clauses_from : Linked → Option ℕ → List (Clause ℕ)
clauses_from l None = []
clauses_from l (Some p) = map (λ c. c.clause) (filter (λ c. nat_eq p c.procedure) l.clauses)

abbrev pub modes_from : Linked → Option ℕ → Option (List Bool)
modes_from l None = None
modes_from l (Some p) = (procedure_at l p).modes

abbrev pub program_of : Linked → Program ℕ
program_of l = record {
  exists = λ m. is_system l.names m || is_module l m;
  visible = λ m i. option_map (λ p. (procedure_at l p).home) (visible_in l.rows m i);
  modes = λ d i. modes_from l (number_of l d i);
  clauses = λ d i. clauses_from l (number_of l d i);
}
