use Rattle.std.proofs.Common.{arith}
use Rattle.plmod.proofs.Units.{clauses_more}
use Rattle.plmod.proofs.prepare.with_clauses.Goals as goal

pub loop-entry-preserved : goal.loop-entry-preserved
loop-entry-preserved c =
    let before = c.loop-entry.invariant.so_far in
    let now = c.in_ok-total.ensures in
    let more = clauses_more c.args.entries.now c.loop-entry.entry-index c.entry-item.result c.loop-entry-test.true c.entry-item.is in
    record { so_far = omega (arith, before, now, more) }
