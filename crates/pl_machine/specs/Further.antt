-- What a machine does whatever the number of steps left.
use Rattle.std.specs.Prelude.{◌≡◌, ℕ, ◌+◌, ◌<◌, List, [], length}
use Rattle.pl_machine.specs.declared.machine.Machine.{Machine}
use Rattle.pl_machine.specs.declared.moves.Part.{Part}
use Rattle.pl_machine.specs.declared.moves.Part.TheVariants as P
use Rattle.pl_machine.specs.declared.moves.Progress.{Progress}
use Rattle.pl_machine.specs.declared.moves.Progress.TheVariants as G
use Rattle.pl_machine.specs.Running.{Outcomes, Remains, Same, Went, Gives, with_left}
use Rattle.pl_machine.specs.Parts.{Did}

-- the machine went on, and one event was shown
pub record WentOne (old new : Machine) (before after : List ℕ) (r : Outcomes) : Type 0 where
  pub went : Went old new before after r
  pub one : length went.events ≡ 1

-- what a part of a move did, of which bytes are those of one event
abbrev pub Does : (Outcomes → Type 0) → Machine → Machine → List ℕ → List ℕ → Part → Type 0
Does X old new before after P.Shown = Same old new × ((r : Outcomes) → X r → WentOne old new before after r)
Does X old new before after P.Quiet = Did X old new before after P.Quiet
Does X old new before after (P.Waits stand) = Did X old new before after (P.Waits stand)
Does X old new before after (P.Ended e) = Did X old new before after (P.Ended e)

-- where a move shows bytes, they are those of one event
abbrev pub ShowsOne : Machine → Machine → List ℕ → List ℕ → Progress → Type 0
ShowsOne old new before after G.Goal = Unit {0}
ShowsOne old new before after G.Shown = (r : Outcomes) → Remains old r → WentOne old new before after r
ShowsOne old new before after (G.Ended e) = Unit {0}

-- The move takes the same steps whatever the number of steps left, where they suffice. Where they don't, nothing more is shown.
pub record Further (old new : Machine) (before after : List ℕ) (p : Progress) : Type 0 where
  pub used : ℕ
  pub taken : used + new.left ≡ old.left
  pub gives : (left : ℕ) → Gives (with_left old (used + left)) (with_left new left) before after p
  pub one : (left : ℕ) → ShowsOne (with_left old (used + left)) (with_left new left) before after p
  pub fewer : (left : ℕ) → left < used → (r : Outcomes) → Remains (with_left old left) r → r.events ≡ []

-- the same of a move that does not end the run
abbrev pub GoesFurther : Machine → Machine → List ℕ → List ℕ → Progress → Type 0
GoesFurther old new before after G.Goal = Further old new before after G.Goal
GoesFurther old new before after G.Shown = Further old new before after G.Shown
GoesFurther old new before after (G.Ended e) = Unit {0}
