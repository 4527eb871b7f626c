use Rattle.std.proofs.Common.{length, ◌-◌, ◌≡◌, ◌≤◌, ◌+◌, drop}
use Rattle.std.specs.Option.{option_map}
use Rattle.text_model.specs.Tokens.{block_len}
use Rattle.pl_tokens.proofs.layout.block_len.Given as goal

abbrev pub invariant-loop-at : goal.invariant-loop-at
invariant-loop-at l = record {
  in_range : l.at ≤ length l.rest;
  before : block_len l.rest ≡ option_map (λ k. l.at + k) (block_len (drop l.at l.rest));
}

abbrev pub decreases-loop-at : goal.decreases-loop-at
decreases-loop-at l = length l.rest - l.at
