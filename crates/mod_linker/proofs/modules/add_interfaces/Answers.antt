use Rattle.unit_model.specs.Encoding.{text_at}
use Rattle.mod_linker.proofs.Interfaces.{module-below, module-known, section-adds, sections-added}
use Rattle.mod_linker.proofs.modules.add_interfaces.Goals as goal

pub add_interface-requires-clause-name : goal.add_interface-requires-clause-name
add_interface-requires-clause-name c = module-below c.args.unit.now c.as_slice-section-items.result.now c.loop-section.section-index c.section-item.result c.as_slice-section-items.ensures c.loop-section-test.true c.section-item.is

pub add_interface-requires-clause-known : goal.add_interface-requires-clause-known
add_interface-requires-clause-known c =
    module-known c.args.unit.now c.as_slice-section-items.result.now c.loop-section.section-index c.section-item.result _ c.args.program.now c.loop-section.program c.as_slice-section-items.ensures c.loop-section-test.true c.section-item.is c.loop-section.invariant c.requires

pub loop-section-preserved : goal.loop-section-preserved
loop-section-preserved c =
    section-adds (text_at c.args.unit.now.names) c.as_slice-section-items.result.now c.loop-section.section-index c.section-item.result c.args.program.now c.loop-section.program c.add_interface.new.program c.loop-section-test.true c.section-item.is
    c.loop-section.invariant c.in_ok-add_interface.ensures

pub returns : goal.returns
returns c = sections-added c.args.unit.now c.as_slice-section-items.result.now c.loop-section.section-index c.args.program.now c.loop-section.program c.as_slice-section-items.ensures c.loop-section-test.false c.loop-section.invariant
