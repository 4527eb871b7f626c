use Rattle.unit_format.specs.Counting.{counted_within}
use Rattle.unit_format.specs.Uses.{need_uses}
use Rattle.std.specs.List.{flat_map}
use Rattle.unit_format.proofs.CountLoop.{Left}
use Rattle.unit_format.proofs.order.after_needs.Given as goal

abbrev pub invariant-loop-need : goal.invariant-loop-need
invariant-loop-need l = Left need_uses l.limit l.next l.need-index l.needs (counted_within l.limit l.fn.next (flat_map need_uses l.needs))
