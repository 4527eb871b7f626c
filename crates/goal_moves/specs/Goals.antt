-- What the goals of clauses lead to.
use Rattle.std.specs.Prelude.{◌≡◌, ℕ, Some, None}
use Rattle.goal_constructs.specs.Goals.{IsRow}
use Rattle.goal_constructs.specs.declared.row.GoalRow.TheVariants as G
use Rattle.clause_code.specs.declared.target.Target.{Target}
use Rattle.clause_code.specs.declared.target.Target.TheVariants as T
use Rattle.goal_state.specs.declared.compiled.CompiledProgram.{CompiledProgram}
use Rattle.goal_state.specs.declared.path.Path.{Path}
use Rattle.goal_state.specs.Denotation.{naming, state_of}
use Rattle.goal_moves.specs.declared.active.Active.{Active}
use Rattle.goal_moves.specs.Clauses.{IsProcedureOf}

-- a goal that is activated has a target, which holds where the goal is looked up from a module
abbrev pub IsOfTarget : CompiledProgram → Path → Active → ℕ → Target → Type 0
IsOfTarget b p a home (T.Plain row) = IsRow (naming b) (state_of p) a.goal (G.Plain row)
IsOfTarget b p a home (T.User (Some proc)) = IsRow (naming b) (state_of p) a.goal G.User × (home ≡ a.setting.lookup.0 → IsProcedureOf b p a proc.0)
IsOfTarget b p a home (T.User None) = Unit {0}
IsOfTarget b p a home T.Construct = Unit {0}
