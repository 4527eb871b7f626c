use Rattle.std.proofs.Common.{◌≡◌, ◌≤◌, [], drop, length}
use Rattle.pl_reader.specs.Turning.{turned, backed}
use Rattle.pl_reader.proofs.prefix.to_prefix.Given as goal

abbrev pub invariant-turning : goal.invariant-turning
invariant-turning l = record {
  in_range : l.at ≤ length l.cells;
  stack : l.pending.items ≡ backed (turned (drop l.at l.cells) ([], [])).0;
  cells : l.out.items ≡ (turned (drop l.at l.cells) ([], [])).1;
}

abbrev pub decreases-turning : goal.decreases-turning
decreases-turning l = l.at
