use Rattle.std.proofs.Common.{◌≡◌, ◌≤◌, ◌<◌, ◌+◌, ◌-◌, ◌++◌, ℕ, map, take, drop, vec_len, vec_capacity, get_or, max}
use Rattle.pl_unify.specs.Code.{placed, RaisedBelow, no_code}
use Rattle.pl_unify.proofs.store.build.copy_code.Given as goal

abbrev pub invariant-loop-i : goal.invariant-loop-i
invariant-loop-i l = record {
  room : vec_len l.cells + (l.to - l.i) ≤ vec_capacity l.cells;
  cells : l.cells.items ≡ l.initial.cells.items ++ map (placed l.base l.from l.at) (take (l.i - l.from) (drop l.from l.words.items));
  up : l.next ≤ l.top;
  few : l.top ≤ max l.next (l.vars + l.base);
  below : (k : ℕ) → l.from ≤ k → k < l.i → RaisedBelow l.top l.base (get_or l.words.items k no_code);
}
