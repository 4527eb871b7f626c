use Rattle.std.proofs.Common.{◌≡◌, ◌∙◌, ◌+◌, ◌-◌, ◌++◌, ◌∷◌, ℕ, ap, arith, reverse}
use Rattle.pl_unify.specs.declared.store.notes.Step.TheVariants.{Visit}
use Rattle.pl_unify.specs.Notes.{visits}
use Rattle.pl_unify.proofs.Grounds.{reverse-step, visits-more}
use Rattle.pl_unify.proofs.store.notes.push_visits.Goals as goal

pub loop-left-preserved : goal.loop-left-preserved
loop-left-preserved c =
    let k : ℕ = c.loop-left.left - 1 in
    let one : c.loop-left.left ≡ k + 1 = omega arith in
    record {
      room = omega (arith, one, c.put.ensures.len, c.put.ensures.capacity, c.loop-left.invariant.room);
      few = omega arith;
      pushed = ap reverse c.put.ensures.items ∙ (reverse-step c.loop-left.work.items (Visit (c.args.first + k))
          ∙ (ap (λ r. Visit (c.args.first + k) ∷ r) (c.loop-left.invariant.pushed ∙ ap (λ m. visits (c.args.first + m) (c.args.count - m) ++ reverse c.make_room.new.list.items) one)
          ∙ visits-more c.args.first c.args.count k (reverse c.make_room.new.list.items) (omega arith)));
    }
