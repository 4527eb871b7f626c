use Rattle.std.proofs.Common.{length, ◌-◌, ◌≤◌, ◌<◌, ℕ, drop}
use Rattle.text_model.specs.Tokens.{run_from}
use Rattle.pl_tokens.specs.Views.{tokens_view}
use Rattle.std.specs.Str.{IsUtf8}
use Rattle.pl_tokens.proofs.Running.{Running}
use Rattle.pl_tokens.proofs.Reading.{IsReading}
use Rattle.pl_tokens.proofs.token_reader.run_at.Given as goal

abbrev pub invariant-taking : goal.invariant-taking
invariant-taking l = record {
  in_range : l.place.at ≤ length l.valid;
  begins : IsUtf8 (drop l.place.at l.valid);
  standing : IsReading l.fn.start.at l.place.at (tokens_view l.tokens);
  running : (turns : ℕ) → length (drop l.fn.start.at l.valid) < turns → Running (run_from turns l.marked l.fn.start.at l.fn.start.direct l.fn.start.minus l.valid) l.marked l.valid (tokens_view l.tokens) l.place.at l.place.direct l.place.minus;
}

abbrev pub decreases-taking : goal.decreases-taking
decreases-taking l = length l.valid - l.place.at
