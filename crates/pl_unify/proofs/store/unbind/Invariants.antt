use Rattle.std.proofs.Common.{◌≡◌, ◌≤◌, length, take, vec_capacity}
use Rattle.pl_unify.specs.State.{links_of, IsUnbindable}
use Rattle.pl_unify.proofs.store.unbind.Given as goal

abbrev pub invariant-loop-trail : goal.invariant-loop-trail
invariant-loop-trail l = record {
  order : IsUnbindable l.vars.items l.trail.items;
  links : links_of l.vars.items l.trail.items ≡ take (length l.trail.items) (links_of l.initial.vars.items l.initial.trail.items);
  same : length l.vars.items ≡ length l.initial.vars.items;
  some : l.keep ≤ length l.trail.items;
  capacity : vec_capacity l.vars ≡ vec_capacity l.initial.vars;
  trail_capacity : vec_capacity l.trail ≡ vec_capacity l.initial.trail;
}

abbrev pub decreases-loop-trail : goal.decreases-loop-trail
decreases-loop-trail l = length l.trail.items
