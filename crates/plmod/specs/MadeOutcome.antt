-- What a command made, as its outcome.
use Rattle.std.specs.Prelude.{◌≢◌, ◌<◌, ◌≤◌, length, IfSome}
use Rattle.plmod.specs.declared.answer.Made.{Made}
use Rattle.plmod.specs.declared.status.Status.TheVariants.{Usage}
use Rattle.plmod.specs.Outcome.{Outcome}
use Rattle.plmod.specs.Meets.{IsWhole}

abbrev pub outcome_of : Made → Outcome
outcome_of m = record { bytes = m.line; status = m.status; stored = m.stored }

-- it can be written
pub record CanBeTold (m : Made) : Type 0 where
  pub whole : IsWhole m.status
  pub used : m.status ≢ Usage

-- it can be put and written
pub record IsReady (m : Made) : Type 0 where
  pub some : 0 < length m.line
  pub whole : IsWhole m.status
  pub used : m.status ≢ Usage
  pub fits : IfSome m.stored (λ bytes. length bytes ≤ 67108864)
