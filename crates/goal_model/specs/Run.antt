-- The run of a goal with a program and a budget of steps.
use Rattle.std.specs.Prelude.{ℕ, Bool, List, [], length, map, codes, Result, Ok, Err}
use Rattle.pl_terms.specs.Trees.{Tree, var}
use Rattle.pl_terms.specs.Occurrence.{variables, canon, from_to}
use Rattle.solver_model.specs.Search.{Point, Outcome, Thrown, At, Over}
use Rattle.solver_model.specs.Frames.{value}
use Rattle.builtin_model.specs.Naming.{Naming}
use Rattle.goal_model.specs.Program.{Clauses, Program}
use Rattle.goal_model.specs.Environments.{Environment}
use Rattle.goal_model.specs.Bodies.{Goal, goal_of, flat}
use Rattle.goal_model.specs.Table.{World, prolog}

module _ {N : Type 0} (n : Naming N) where
  -- everything in user
  abbrev pub user_place : Environment N
  user_place = record { lookup = n.name (codes "user"); context = n.name (codes "user"); caller = n.name (codes "user") }

  abbrev pub starting : Result (Tree N) (Tree N) → ℕ → Point (Goal N) (World N) (Tree N)
  starting (Err ball) v = Over (Thrown (canon ball) [])
  starting (Ok t) v = At (record { depth = 0; items = flat n t user_place 0; world = record { template = map var (from_to 0 v); next = v } })

  -- where the run of a goal starts, whose variables are numbered from 0
  abbrev pub start : Tree N → Point (Goal N) (World N) (Tree N)
  start t = starting (goal_of n t (n.name (codes "call")) 1) (length (variables t))

  -- `same` tells whether two names are one. The events of a run, the steps left at its end, and how it ends; what is cut to at the top is exhausted
  abbrev pub run_of : (N → N → Bool) → Program N → Tree N → ℕ → Outcome (List (Tree N)) (Tree N) (Clauses N)
  run_of same p t budget = value (prolog n same p) (start t) budget p.clauses []
