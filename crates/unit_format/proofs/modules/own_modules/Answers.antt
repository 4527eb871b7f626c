use Rattle.std.proofs.Common.{sym}
use Rattle.unit_format.proofs.SetLaws.{own_goes_on, own_is_done}
use Rattle.unit_format.proofs.modules.own_modules.Goals as goal

pub loop-section-preserved : goal.loop-section-preserved
loop-section-preserved c =
    own_goes_on c.loop-section.own.ids.keys c.add_own.new.own.ids.keys c.loop-section.section-index c.args.sections.now c.section-item.result c.loop-section-test.true (sym c.section-item.is) c.in_ok-add_own.ensures c.loop-section.invariant

pub returns : goal.returns
returns c = own_is_done c.loop-section.own.ids.keys c.loop-section.section-index c.args.sections.now c.loop-section-test.false c.loop-section.invariant
