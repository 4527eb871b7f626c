use Rattle.std.proofs.Common.{sym, ◌∙◌}
use Rattle.unit_format.specs.Uses.{section_uses}
use Rattle.unit_format.proofs.CountLoop.{goes_on, stops}
use Rattle.unit_format.proofs.order.after_sections.Goals as goal

pub returns-in_err-next : goal.returns-in_err-next
returns-in_err-next c = c.from_residual.ensures ∙ stops section_uses c.args.limit c.args.sections.now c.loop-section.section-index c.section-item.result c.loop-section.next _ c.loop-section-test.true (sym c.section-item.is) c.in_err-next.ensures c.loop-section.invariant

pub loop-section-preserved : goal.loop-section-preserved
loop-section-preserved c = goes_on section_uses c.args.limit c.args.sections.now c.loop-section.section-index c.section-item.result c.loop-section.next c.in_ok-next.next _ c.loop-section-test.true (sym c.section-item.is) c.in_ok-next.ensures c.loop-section.invariant
