-- The goals of a body as items of a search.
use Rattle.std.specs.Prelude.{◌≡◌, ℕ, map, codes, nat_eq}
use Rattle.pl_terms.specs.Trees.{Tree}
use Rattle.solver_model.specs.Search.{Item, Call}
use Rattle.builtin_model.specs.Naming.{Naming}
use Rattle.goal_model.specs.Environments.{Environment}
use Rattle.goal_model.specs.Bodies.{Goal, is_named, flat}
use Rattle.goal_model.specs.Table.{body_items}
use Rattle.goal_code.specs.declared.shape.ControlNames.{ControlNames}
use Rattle.goal_code.specs.Shapes.{conjuncts, body_goals}

-- the numbers are those of the constructs' names
pub record AreControlNames (n : Naming ℕ) (s : ControlNames) : Type 0 where
  pub conjunction : (f : ℕ) → is_named n f (codes ",") ≡ nat_eq f s.conjunction.0
  pub disjunction : (f : ℕ) → is_named n f (codes ";") ≡ nat_eq f s.disjunction.0
  pub implication : (f : ℕ) → is_named n f (codes "->") ≡ nat_eq f s.implication.0
  pub cut : (f : ℕ) → is_named n f (codes "!") ≡ nat_eq f s.cut.0
  pub truth : (f : ℕ) → is_named n f (codes "true") ≡ nat_eq f s.truth.0

-- a goal in an environment, with the depth to which a cut in it cuts
abbrev pub called : Environment ℕ → ℕ → Tree ℕ → Item (Goal ℕ)
called env d t = Call (record { tree = t; env = env; reach = d })

-- the items of a body are the calls of its goals
abbrev pub ItemsAreGoals : Naming ℕ → ControlNames → Type 0
ItemsAreGoals n s = (t : Tree ℕ) (env : Environment ℕ) (d : ℕ) → body_items n t env d ≡ map (called env d) (body_goals s t)

-- the items of a goal as `call/1` runs it are the calls of its goals
abbrev pub FlatAreGoals : Naming ℕ → ControlNames → Type 0
FlatAreGoals n s = (t : Tree ℕ) (env : Environment ℕ) (d : ℕ) → flat n t env d ≡ map (called env d) (conjuncts s t)
