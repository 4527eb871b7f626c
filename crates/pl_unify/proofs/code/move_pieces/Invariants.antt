use Rattle.std.proofs.Common.{◌≡◌, ◌≤◌, ◌-◌, ◌++◌, take, drop, reverse, length}
use Rattle.pl_unify.specs.Code.{piece_words, start_of}
use Rattle.pl_unify.proofs.code.move_pieces.Given as goal

abbrev pub invariant-loop-left : goal.invariant-loop-left
invariant-loop-left l = record {
  few : l.left ≤ l.count;
  enough : l.left ≤ length l.pieces.items;
  words : l.words.items ≡ l.initial.words.items ++ piece_words (take (l.count - l.left) (reverse l.initial.pieces.items));
  pieces : reverse l.pieces.items ≡ drop (l.count - l.left) (reverse l.initial.pieces.items);
  start : l.from ≡ start_of (l.count - l.left) (length l.initial.words.items) (reverse l.initial.pieces.items);
}

abbrev pub decreases-loop-left : goal.decreases-loop-left
decreases-loop-left l = l.left
