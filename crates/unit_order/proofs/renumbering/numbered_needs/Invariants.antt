use Rattle.std.proofs.Common.{◌≡◌, map, take}
use Rattle.unit_model.specs.Facts.{need_by}
use Rattle.unit_model.specs.Views.{need_view}
use Rattle.unit_order.specs.Numbering.{number_in}
use Rattle.unit_order.proofs.renumbering.numbered_needs.Given as goal

abbrev pub invariant-loop-need : goal.invariant-loop-need
invariant-loop-need l = map need_view l.copy ≡ map (need_by (number_in l.used)) (map need_view (take l.need-index l.needs))
