use Rattle.std.proofs.Common.{sym, ◌∙◌}
use Rattle.unit_format.specs.Uses.{need_uses}
use Rattle.unit_format.proofs.CountLoop.{goes_on, stops}
use Rattle.unit_format.proofs.order.after_needs.Goals as goal

pub returns-in_err-next : goal.returns-in_err-next
returns-in_err-next c = c.from_residual.ensures ∙ stops need_uses c.args.limit c.args.needs.now c.loop-need.need-index c.need-item.result c.loop-need.next _ c.loop-need-test.true (sym c.need-item.is) c.in_err-next.ensures c.loop-need.invariant

pub loop-need-preserved : goal.loop-need-preserved
loop-need-preserved c = goes_on need_uses c.args.limit c.args.needs.now c.loop-need.need-index c.need-item.result c.loop-need.next c.in_ok-next.next _ c.loop-need-test.true (sym c.need-item.is) c.in_ok-next.ensures c.loop-need.invariant
