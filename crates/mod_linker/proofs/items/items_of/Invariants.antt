use Rattle.std.proofs.Common.{◌≡◌, map, take}
use Rattle.unit_model.specs.Encoding.{text_at}
use Rattle.unit_format.specs.Views.{unit_facts}
use Rattle.program_model.specs.Saying.{said_by, said}
use Rattle.mod_linker.specs.Items.{items_view, AreItems}
use Rattle.mod_linker.proofs.items.items_of.Given as goal

abbrev pub invariant-loop-number : goal.invariant-loop-number
invariant-loop-number l = record {
  texts : map (said_by (text_at l.table.names)) (items_view l.items.items) ≡ said (map unit_facts (take l.number l.units));
  items : AreItems l.table.names l.items.items;
}
