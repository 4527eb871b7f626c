use Rattle.std.proofs.Common.{◌∷◌, [], map}
use Rattle.std.specs.Prelude.{codes}
use Rattle.std.specs.List.{flat_map}
use Rattle.unit_format.specs.Views.{unit_facts}
use Rattle.mod_linker.specs.Modules.{module_texts}
use Rattle.mod_linker.proofs.Modular.{adds-more}
use Rattle.mod_linker.proofs.Interfaces.{module-adds, unit-known, unit-adds, units-added}
use Rattle.mod_linker.proofs.modules.add_modules.Goals as goal

pub add_interfaces-requires : goal.add_interfaces-requires
add_interfaces-requires c =
    let user = module-adds c.args.program.now c.add_module.new.self (codes "user") c.in_ok-add_module.field-0.0 c.requires.user c.in_ok-add_module.ensures.ok c.in_ok-add_module.ensures.number in
    unit-known c.args.units.now c.loop-unit.unit-index c.unit-item.result c.args.program.now c.add_module.new.self c.loop-unit.program c.loop-unit-test.true c.unit-item.is user.names c.loop-unit.invariant.names c.requires.named

pub loop-unit-preserved : goal.loop-unit-preserved
loop-unit-preserved c =
    unit-adds c.args.units.now c.loop-unit.unit-index c.unit-item.result c.add_module.new.self c.loop-unit.program c.add_interfaces.new.program c.loop-unit-test.true c.unit-item.is c.loop-unit.invariant c.in_ok-add_interfaces.ensures

pub returns : goal.returns
returns c =
    let user = module-adds c.args.program.now c.add_module.new.self (codes "user") c.in_ok-add_module.field-0.0 c.requires.user c.in_ok-add_module.ensures.ok c.in_ok-add_module.ensures.number in
    let all = units-added c.args.units.now c.loop-unit.unit-index c.add_module.new.self c.loop-unit.program c.loop-unit-test.false c.loop-unit.invariant in
    adds-more (codes "user" ∷ []) (flat_map module_texts (map unit_facts c.args.units.now)) c.args.program.now c.add_module.new.self c.loop-unit.program user all
