use Rattle.std.proofs.Common.{◌≡◌, ◌+◌, ◌-◌, ◌≤◌, ◌++◌, reverse, vec_len, vec_capacity}
use Rattle.pl_unify.specs.Notes.{visits}
use Rattle.pl_unify.proofs.store.notes.push_visits.Given as goal

abbrev pub invariant-loop-left : goal.invariant-loop-left
invariant-loop-left l = record {
  room : vec_len l.work + l.left ≤ vec_capacity l.work;
  few : l.left ≤ l.count;
  pushed : reverse l.work.items ≡ visits (l.first + l.left) (l.count - l.left) ++ reverse l.initial.work.items;
}

abbrev pub decreases-loop-left : goal.decreases-loop-left
decreases-loop-left l = l.left
