-- What the parts of a move do.
use Rattle.std.specs.Prelude.{◌≡◌, ℕ, List, [], ◌++◌}
use Rattle.solver_model.specs.Search.{At, Over, Failed, PointOf}
use Rattle.solver_model.specs.Configurations.{Configuration, Sane, value_of}
use Rattle.goal_model.specs.Table.{shown}
use Rattle.goal_state.specs.declared.compiled.CompiledProgram.{CompiledProgram}
use Rattle.goal_state.specs.Denotation.{language_of, point_here, world_here, search_at}
use Rattle.goal_moves.specs.declared.standing.Stand.{Stand}
use Rattle.pl_machine.specs.declared.machine.Machine.{Machine}
use Rattle.pl_machine.specs.declared.moves.Part.{Part}
use Rattle.pl_machine.specs.declared.moves.Part.TheVariants as P
use Rattle.pl_machine.specs.Fronts.{first_at}
use Rattle.pl_machine.specs.Running.{Outcomes, Remains, Same, Went, Ended}

-- a search is sane, and gives this
abbrev pub IsSo : (b : CompiledProgram) → Configuration (language_of b) → Outcomes → Type 0
IsSo b x r = Sane (language_of b) x × (value_of (language_of b) x ≡ r)

-- the search of a machine stands at a point, and gives this
abbrev pub StandsSo : (m : Machine) → PointOf (language_of m.compiled) → Outcomes → Type 0
StandsSo m point r = IsSo m.compiled (search_at m.compiled m.path point m.left) r

-- the same where it has failed, where its path goes on, and where nothing is left to be run
abbrev pub Failing : Machine → Outcomes → Type 0
Failing m r = StandsSo m (Over Failed) r

abbrev pub Searching : Machine → Outcomes → Type 0
Searching m r = StandsSo m (point_here m.compiled m.path) r

abbrev pub Answering : Machine → Outcomes → Type 0
Answering m r = StandsSo m (At (record { depth = m.path.depth; items = []; world = world_here m.compiled m.path })) r

-- a goal stands first on a machine's path
abbrev pub Awaits : Machine → Stand → Outcomes → Type 0
Awaits m stand r = StandsSo m (first_at m.compiled m.path stand) r

-- nothing was shown
pub record Kept (old new : Machine) (before after : List ℕ) : Type 0 where
  pub text : after ≡ before
  pub same : Same old new
  pub answers : new.answers ≡ old.answers

-- what a part of a move did, where this was to be given before
abbrev pub Did : (Outcomes → Type 0) → Machine → Machine → List ℕ → List ℕ → Part → Type 0
Did X old new before after P.Shown = Same old new × ((r : Outcomes) → X r → Went old new before after r)
Did X old new before after P.Quiet = Kept old new before after × ((r : Outcomes) → X r → Remains new r)
Did X old new before after (P.Waits stand) = Kept old new before after × ((r : Outcomes) → X r → Awaits new stand r)
Did X old new before after (P.Ended e) = Kept old new before after × ((r : Outcomes) → X r → Ended new e r)

-- the goal that stood first was activated
pub record Acted (old : Machine) (stand : Stand) (new : Machine) (before after : List ℕ) : Type 0 where
  pub same : Same old new
  pub answers : new.answers ≡ old.answers
  pub bytes : List ℕ
  pub text : after ≡ before ++ bytes
  pub went : (r : Outcomes) → Awaits old stand r → Went old new before after r
  pub shows : (r : Outcomes) (h : Awaits old stand r) → (went r h).events ≡ shown bytes
