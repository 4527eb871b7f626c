use Rattle.std.proofs.Common.{arith}
use Rattle.plmod.proofs.Units.{count_more}
use Rattle.plmod.proofs.prepare.count_clauses.Goals as goal

pub loop-section-preserved : goal.loop-section-preserved
loop-section-preserved c =
    let before = c.loop-section.invariant.so_far in
    let now = rw c.as_slice.ensures at c.in_ok-count.ensures in
    let more = count_more c.args.sections.now c.loop-section.section-index c.section-item.result c.loop-section-test.true c.section-item.is in
    record { so_far = omega (arith, before, now, more) }
