use Rattle.std.proofs.Common.{◌≡◌, ◌≤◌, drop, reverse, length}
use Rattle.pl_unify.specs.Prefix.{build}
use Rattle.pl_unify.specs.Coding.{Coded, piece_trees}
use Rattle.pl_unify.proofs.code.Code.of.Given as goal

abbrev pub invariant-loop-left : goal.invariant-loop-left
invariant-loop-left l = record {
  few : l.left ≤ length l.cells;
  coded : Coded l.words.items l.vars (reverse l.pieces.items);
  trees : piece_trees l.words.items (reverse l.pieces.items) ≡ build (drop l.left l.cells);
}

abbrev pub decreases-loop-left : goal.decreases-loop-left
decreases-loop-left l = l.left
