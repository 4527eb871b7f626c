use Rattle.std.proofs.Common.{length, ◌-◌, ◌≡◌, ◌≤◌}
use Rattle.text_model.specs.Tokens.{skipped_from}
use Rattle.pl_tokens.proofs.layout.skip.Given as goal

abbrev pub invariant-loop-n : goal.invariant-loop-n
invariant-loop-n l = record {
  in_range : l.at ≤ length l.text;
  same : skipped_from l.at l.text ≡ skipped_from l.start l.text;
}

abbrev pub decreases-loop-n : goal.decreases-loop-n
decreases-loop-n l = length l.text - l.at
