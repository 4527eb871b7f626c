use Rattle.mod_linker.proofs.Declaring.{declared-more}
use Rattle.mod_linker.proofs.declared.Declared.of.Goals as goal

pub loop-item-preserved : goal.loop-item-preserved
loop-item-preserved c = declared-more c.args.items.now c.loop-item.item-index c.item-item.result c.loop-item.declared.modes.entries c.add.new.self.modes.entries c.loop-item-test.true c.item-item.is c.loop-item.invariant c.in_ok-add.ensures
