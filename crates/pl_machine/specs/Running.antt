-- What is left of a run, and what a run is.
use Rattle.std.specs.Prelude.{◌≡◌, ℕ, ◌+◌, ◌-◌, ◌^◌, min, List, [], ◌++◌, map, length}
use Rattle.pl_terms.specs.Trees.{Tree}
use Rattle.pl_terms.specs.Order.{text_of}
use Rattle.pl_ops.specs.Standard.{standard}
use Rattle.pl_ops.specs.Tables.{operator}
use Rattle.solver_model.specs.Search.{Event, End, Failed, CutTo, Thrown, Halted, Spent, Outcome, answers_of}
use Rattle.solver_model.specs.Configurations.{Sane, value_of}
use Rattle.goal_model.specs.Program.{Clauses}
use Rattle.naming_laws.specs.SameRun.{event_by}
use Rattle.prep_report.specs.declared.end.End2.{End2}
use Rattle.prep_report.specs.declared.end.End2.TheVariants as E
use Rattle.goal_state.specs.Denotation.{language_of}
use Rattle.goal_moves.specs.Moves.{Stays}
use Rattle.pl_machine.specs.declared.machine.Machine.{Machine}
use Rattle.pl_machine.specs.declared.run.Show.{Show}
use Rattle.pl_machine.specs.declared.run.Show.TheVariants.{Lines, Count}
use Rattle.pl_machine.specs.declared.moves.Progress.{Progress}
use Rattle.pl_machine.specs.declared.moves.Progress.TheVariants as P
use Rattle.pl_machine.specs.Shown.{events_shown}

-- what a run gives
abbrev pub Outcomes : Type 0
Outcomes = Outcome (List (Tree ℕ)) (Tree ℕ) (Clauses ℕ)

-- this is what a machine's run still gives
abbrev pub Remains : Machine → Outcomes → Type 0
Remains m r = Stays m.compiled (λ x. Sane (language_of m.compiled) x × (value_of (language_of m.compiled) x ≡ r)) m.path m.left m.going

-- how a run ends; what is cut to at the top is exhausted
abbrev pub end_of : End (Tree ℕ) → End2
end_of Failed = E.Exhausted
end_of (CutTo c) = E.Exhausted
end_of (Thrown ball active) = E.Uncaught ball
end_of (Halted z) = E.Halted z
end_of Spent = E.Spent

-- a machine with so many steps left
abbrev pub with_left : Machine → ℕ → Machine
with_left m left = record m { left = left }

-- the bytes of events
abbrev pub text_shown : Machine → List (Event (List (Tree ℕ))) → List ℕ
text_shown m events = events_shown (operator standard) m.variables.items (map (event_by (text_of m.compiled.names)) events)

-- what is put of bytes that are shown
abbrev pub bytes_by : Show → List ℕ → List ℕ
bytes_by Lines bytes = bytes
bytes_by Count bytes = []

-- the bytes that a run puts
abbrev pub shown_by : Machine → Show → List (Event (List (Tree ℕ))) → List ℕ
shown_by m show events = bytes_by show (text_shown m events)

-- what a machine keeps
abbrev pub Same : Machine → Machine → Type 0
Same old new = (new.compiled ≡ old.compiled) × (new.variables ≡ old.variables) × (new.budget ≡ old.budget)

-- the answers that are counted: no more than 2 ^ 64 - 1
abbrev pub stopped : ℕ → ℕ
stopped n = min n (2 ^ 64 - 1)

-- The machine went on: these events were shown, and the rest of the run is before it.
pub record Went (old new : Machine) (before after : List ℕ) (r : Outcomes) : Type 0 where
  pub events : List (Event (List (Tree ℕ)))
  pub rest : Outcomes
  pub remains : Remains new rest
  pub all : r ≡ record { events = events ++ rest.events; left = rest.left; clauses = rest.clauses; ended = rest.ended }
  pub text : after ≡ before ++ text_shown old events
  pub answers : new.answers ≡ stopped (old.answers + length (answers_of events))

abbrev pub Goes : Machine → Machine → List ℕ → List ℕ → Type 0
Goes old new before after = Same old new × ((r : Outcomes) → Remains old r → Went old new before after r)

-- nothing is left of the run but its end
pub record Ended (new : Machine) (e : End2) (r : Outcomes) : Type 0 where
  pub events : r.events ≡ []
  pub ended : e ≡ end_of r.ended
  pub left : new.left ≡ r.left

-- what a move did
abbrev pub Gives : Machine → Machine → List ℕ → List ℕ → Progress → Type 0
Gives old new before after P.Goal = (after ≡ before) × Goes old new before after
Gives old new before after P.Shown = Goes old new before after
Gives old new before after (P.Ended e) = (after ≡ before) × Same old new × (new.answers ≡ old.answers) × ((r : Outcomes) → Remains old r → Ended new e r)

-- a run came to its end with this outcome
pub record Ran (old new : Machine) (e : End2) (r : Outcomes) : Type 0 where
  pub same : Same old new
  pub ended : e ≡ end_of r.ended
  pub left : new.left ≡ r.left
  pub answers : new.answers ≡ stopped (old.answers + length (answers_of r.events))
