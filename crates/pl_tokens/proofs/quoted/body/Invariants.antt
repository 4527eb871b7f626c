use Rattle.std.proofs.Common.{length, ◌-◌, ◌≤◌}
use Rattle.pl_tokens.proofs.Bodies.{Going}
use Rattle.pl_tokens.proofs.quoted.body.Given as goal

abbrev pub invariant-loop-part : goal.invariant-loop-part
invariant-loop-part l = record {
  in_range : l.at ≤ length l.rest;
  going : Going l.quote l.rest l.text l.at;
}

abbrev pub decreases-loop-part : goal.decreases-loop-part
decreases-loop-part l = length l.rest - l.at
