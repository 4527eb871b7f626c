use Rattle.std.proofs.Common.{arith, refl, ◌-◌}
use Rattle.pl_terms.specs.Order.{text_of}
use Rattle.term_walk.proofs.Readings.{modes-more}
use Rattle.term_walk.proofs.items.modes_of.Goals as goal

pub loop-count-preserved : goal.loop-count-preserved
loop-count-preserved c =
    modes-more (text_of c.args.names.now) c.loop-count.count (c.loop-count.count - 1) c.loop-count.args c.enter.new.self c.in-Some.is_meta c.loop-count.modes c.push.new.self _
    (omega arith) refl c.in-Some.ensures c.enter.ensures.trees c.in_ok-push.ensures.ok c.loop-count.invariant
