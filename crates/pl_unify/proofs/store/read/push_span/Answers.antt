use Rattle.std.proofs.Common.{◌≡◌, ◌∙◌, ◌+◌, ◌-◌, ◌++◌, ◌∷◌, ℕ, ap, arith, reverse}
use Rattle.pl_unify.specs.Stack.{span}
use Rattle.pl_unify.proofs.Walk.{reverse-push, span-more}
use Rattle.pl_unify.proofs.store.read.push_span.Goals as goal

pub loop-left-preserved : goal.loop-left-preserved
loop-left-preserved c =
    let k : ℕ = c.loop-left.left - 1 in
    let one : c.loop-left.left ≡ k + 1 = omega arith in
    record {
      room = omega (arith, one, c.put.ensures.len, c.put.ensures.capacity, c.loop-left.invariant.room);
      few = omega arith;
      pushed = ap reverse c.put.ensures.items ∙ (reverse-push c.loop-left.work.items (c.args.first + k)
          ∙ (ap (λ r. (c.args.first + k) ∷ r) (c.loop-left.invariant.pushed ∙ ap (λ m. span (c.args.first + m) (c.args.count - m) ++ reverse c.make_room.new.list.items) one)
          ∙ span-more c.args.first c.args.count k (reverse c.make_room.new.list.items) (omega arith)));
    }
