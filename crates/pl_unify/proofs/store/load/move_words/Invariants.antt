use Rattle.std.proofs.Common.{◌≡◌, ◌≤◌, ◌+◌, ◌-◌, ◌++◌, take, drop, reverse, length, vec_len, vec_capacity}
use Rattle.pl_unify.proofs.store.load.move_words.Given as goal

abbrev pub invariant-loop-left : goal.invariant-loop-left
invariant-loop-left l = record {
  few : l.left ≤ l.count;
  enough : l.left ≤ length l.words.items;
  room : vec_len l.cells + l.left ≤ vec_capacity l.cells;
  cells : l.cells.items ≡ l.initial.cells.items ++ take (l.count - l.left) (reverse l.initial.words.items);
  words : reverse l.words.items ≡ drop (l.count - l.left) (reverse l.initial.words.items);
}

abbrev pub decreases-loop-left : goal.decreases-loop-left
decreases-loop-left l = l.left
