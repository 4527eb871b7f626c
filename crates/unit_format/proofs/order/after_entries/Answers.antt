use Rattle.std.proofs.Common.{sym, ◌∙◌}
use Rattle.unit_format.specs.Uses.{entry_uses}
use Rattle.unit_format.proofs.CountLoop.{goes_on, stops}
use Rattle.unit_format.proofs.order.after_entries.Goals as goal

pub returns-in_err-next : goal.returns-in_err-next
returns-in_err-next c = c.from_residual.ensures ∙ stops entry_uses c.args.limit c.args.entries.now c.loop-entry.entry-index c.entry-item.result c.loop-entry.next _ c.loop-entry-test.true (sym c.entry-item.is) c.in_err-next.ensures c.loop-entry.invariant

pub loop-entry-preserved : goal.loop-entry-preserved
loop-entry-preserved c = goes_on entry_uses c.args.limit c.args.entries.now c.loop-entry.entry-index c.entry-item.result c.loop-entry.next c.in_ok-next.next _ c.loop-entry-test.true (sym c.entry-item.is) c.in_ok-next.ensures c.loop-entry.invariant
