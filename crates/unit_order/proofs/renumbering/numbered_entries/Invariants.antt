use Rattle.std.proofs.Common.{◌≡◌, map, take}
use Rattle.unit_model.specs.Facts.{entry_by}
use Rattle.unit_model.specs.Views.{entry_view}
use Rattle.unit_order.specs.Numbering.{number_in}
use Rattle.unit_order.proofs.renumbering.numbered_entries.Given as goal

abbrev pub invariant-loop-entry : goal.invariant-loop-entry
invariant-loop-entry l = map entry_view l.copy ≡ map (entry_by (number_in l.used)) (map entry_view (take l.entry-index l.entries))
