use Rattle.unit_model.specs.Encoding.{text_at}
use Rattle.mod_linker.proofs.Interfaces.{interface-adds}
use Rattle.mod_linker.proofs.modules.add_interface.Goals as goal

pub returns-in_ok-add_module-in-Interface : goal.returns-in_ok-add_module-in-Interface
returns-in_ok-add_module-in-Interface c =
    interface-adds (text_at c.args.names.now) c.args.section.now c.args.program.now c.add_module.new.self c.text.result.now c.in_ok-add_module-in-Interface.field-0.0 c.in-Interface.is c.text.ensures c.requires.known
    c.in_ok-add_module-in-Interface.ensures.ok c.in_ok-add_module-in-Interface.ensures.number
