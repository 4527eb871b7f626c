use Rattle.std.proofs.Common.{◌≡◌, ◌≤◌, ◌+◌, ◌-◌, ◌++◌, length, vec_len, vec_capacity}
use Rattle.pl_unify.specs.Code.{own_words}
use Rattle.pl_unify.proofs.store.build.make_up_to.Given as goal

abbrev pub invariant-loop-vars : goal.invariant-loop-vars
invariant-loop-vars l = record {
  room : vec_len l.vars + (l.top - length l.vars.items) ≤ vec_capacity l.vars;
  low : length l.initial.vars.items ≤ length l.vars.items;
  high : length l.vars.items ≤ l.top;
  vars : l.vars.items ≡ l.initial.vars.items ++ own_words (length l.initial.vars.items) (length l.vars.items - length l.initial.vars.items);
}

abbrev pub decreases-loop-vars : goal.decreases-loop-vars
decreases-loop-vars l = l.top - length l.vars.items
