use Rattle.mod_linker.proofs.Providing.{takes-none}
use Rattle.mod_linker.proofs.Taking.{item-there, home-there, items-more}
use Rattle.mod_linker.proofs.entering.Linker.enter_all.Goals as goal

pub loop-item-init : goal.loop-item-init
loop-item-init c = takes-none c.args.declared.now.modes.entries c.args.self.now.program c.args.self.now.known.numbers.entries c.requires.known

pub enter-requires-clause-item : goal.enter-requires-clause-item
enter-requires-clause-item c = item-there c.args.items.now c.loop-item.item-index c.item-item.result _ c.args.declared.now.modes.entries c.args.self.now.program c.loop-item.self.program c.loop-item.self.known.numbers.entries c.loop-item-test.true c.item-item.is c.loop-item.invariant c.requires.items

pub enter-requires-clause-home : goal.enter-requires-clause-home
enter-requires-clause-home c = home-there c.args.items.now c.loop-item.item-index c.item-item.result _ c.args.declared.now.modes.entries c.args.self.now.program c.loop-item.self.program c.loop-item.self.known.numbers.entries c.loop-item-test.true c.item-item.is c.loop-item.invariant c.requires.homes

pub loop-item-preserved : goal.loop-item-preserved
loop-item-preserved c =
    items-more c.args.items.now c.loop-item.item-index c.item-item.result c.args.declared.now.modes.entries c.args.self.now.program c.loop-item.self.program c.enter.new.self.program c.loop-item.self.known.numbers.entries c.enter.new.self.known.numbers.entries
    c.loop-item-test.true c.item-item.is c.loop-item.invariant c.in_ok-enter.ensures
