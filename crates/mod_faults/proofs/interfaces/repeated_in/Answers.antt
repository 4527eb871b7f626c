use Rattle.mod_faults.proofs.Repeating.{repeats-section, repeats-sections}
use Rattle.mod_faults.proofs.interfaces.repeated_in.Goals as goal

pub loop-section-preserved : goal.loop-section-preserved
loop-section-preserved c =
    repeats-section c.args.unit c.args.names.now c.args.sections.now c.loop-section.section-index c.section-item.result c.args.seen.now c.loop-section.seen c.repeated_at.new.seen
    c.args.out.now.items c.loop-section.out.items c.repeated_at.new.out.items c.loop-section-test.true c.section-item.is c.loop-section.invariant c.in_ok-repeated_at.ensures

pub returns : goal.returns
returns c = repeats-sections c.args.unit c.args.names.now c.args.sections.now c.loop-section.section-index c.args.seen.now c.loop-section.seen c.args.out.now.items c.loop-section.out.items c.loop-section-test.false c.loop-section.invariant
