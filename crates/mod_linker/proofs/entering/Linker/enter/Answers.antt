use Rattle.mod_linker.specs.Items.{item_view}
use Rattle.mod_linker.proofs.Taking.{takes-other, no-clause, no-procedure}
use Rattle.mod_linker.proofs.entering.Linker.enter.Goals as goal

pub returns-in_default : goal.returns-in_default
returns-in_default c =
    takes-other c.args.self.now.program (item_view c.args.item.now) c.args.declared.now.modes.entries c.args.self.now.known.numbers.entries c.requires.known (no-clause c.args.item.now c.in_default.not-Clause)
    (no-procedure c.args.item.now c.in_default.not-Clause)
