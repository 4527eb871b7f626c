-- A run whose output failed.
use Rattle.std.specs.Prelude.{◌≡◌, ℕ, ◌+◌, ◌<◌, nat_lt, List, [], ◌∷◌, ◌++◌, length, filter, take, Option}
use Rattle.std.specs.Io.KnownBytes.{Appends}
use Rattle.pl_terms.specs.Trees.{Tree}
use Rattle.solver_model.specs.Search.{Event}
use Rattle.pl_machine.specs.declared.machine.Machine.{Machine}
use Rattle.pl_machine.specs.Running.{Outcomes, text_shown}

-- the bytes of an event
abbrev pub bytes_of : Machine → Event (List (Tree ℕ)) → List ℕ
bytes_of m event = text_shown m (event ∷ [])

-- the events that have bytes
abbrev pub shown_events : Machine → List (Event (List (Tree ℕ))) → List (Event (List (Tree ℕ)))
shown_events m events = filter (λ event. nat_lt 0 (length (bytes_of m event))) events

-- a run that gives this shows more than so many events
abbrev pub ShowsMore : Machine → ℕ → Outcomes → Type 0
ShowsMore m count r = count < length (shown_events m r.events)

-- The output failed at an event of the run, where this is what the run gives with each number of steps. The bytes of the events that
-- are shown before it were put, and a front of its own. The steps that were taken are the fewest with which the run shows it.
pub record Broke (old new : Machine) (before after : Option (List ℕ)) (outcome : ℕ → Outcomes) : Type 0 where
  pub put : List (Event (List (Tree ℕ)))
  pub event : Event (List (Tree ℕ))
  pub others : List (Event (List (Tree ℕ)))
  pub split : shown_events old (outcome old.left).events ≡ put ++ event ∷ others
  pub front : ℕ
  pub written : Appends before after (text_shown old put ++ take front (bytes_of old event))
  pub steps : ℕ
  pub taken : steps + new.left ≡ old.left
  pub enough : ShowsMore old (length put) (outcome steps)
  pub least : (fewer : ℕ) → fewer < steps → ShowsMore old (length put) (outcome fewer) → ⊥
