use Rattle.std.proofs.Common.{ap}
use Rattle.mod_visible.specs.Takers.{takers_in, IsChained}
use Rattle.mod_visible.proofs.ChainLaws.{chained_none, takers_more, takers_end}
use Rattle.mod_visible.proofs.takers.Takers.of.Goals as goal

pub loop-entry-init : goal.loop-entry-init
loop-entry-init c =
    let chained : IsChained c.new-takers.result.links.items c.new-takers.result.last.places.entries = rw (c.new-takers.ensures.links, c.new-takers.ensures.last) chained_none in
    (ap takers_in c.new-takers.ensures.links, chained)

pub add-requires : goal.add-requires
add-requires c = c.loop-entry.invariant.1

pub loop-entry-preserved : goal.loop-entry-preserved
loop-entry-preserved c = (takers_more c.args.entries.now c.loop-entry.entry-index _ _ _ c.loop-entry-test.true c.in_ok-add.ensures.takers c.loop-entry.invariant.0, c.in_ok-add.ensures.chained)

pub returns-clause-takers : goal.returns-clause-takers
returns-clause-takers c = takers_end c.args.entries.now c.loop-entry.entry-index _ c.loop-entry-test.false c.loop-entry.invariant.0

pub returns-clause-chained : goal.returns-clause-chained
returns-clause-chained c = c.loop-entry.invariant.1
