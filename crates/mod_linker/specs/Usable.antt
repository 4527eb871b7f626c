-- Entries whose names can be taken into the table of all.
use Rattle.std.specs.Prelude.{length}
use Rattle.unit_format.specs.Uses.{what_uses}
use Rattle.mod_visible.specs.Placing.{AllBelow, ModesFit}
use Rattle.mod_linker.specs.declared.items.Item.{Item}

pub record IsUsable (x : Item) : Type 0 where
  pub uses : AllBelow (length x.remap.now) (what_uses x.what.now)
  pub modes : ModesFit x.what.now
