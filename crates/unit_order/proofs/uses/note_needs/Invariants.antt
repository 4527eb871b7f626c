use Rattle.std.proofs.Common.{◌≡◌, take}
use Rattle.std.specs.List.{flat_map}
use Rattle.unit_format.specs.Uses.{need_uses}
use Rattle.unit_order.specs.Numbering.{all_noted}
use Rattle.unit_order.proofs.uses.note_needs.Given as goal

abbrev pub invariant-loop-need : goal.invariant-loop-need
invariant-loop-need l = l.used ≡ all_noted l.initial.used (flat_map need_uses (take l.need-index l.needs))
