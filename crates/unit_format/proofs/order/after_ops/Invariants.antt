use Rattle.unit_format.specs.Counting.{counted_within}
use Rattle.unit_format.specs.Uses.{op_uses}
use Rattle.std.specs.List.{flat_map}
use Rattle.unit_format.proofs.CountLoop.{Left}
use Rattle.unit_format.proofs.order.after_ops.Given as goal

abbrev pub invariant-loop-op : goal.invariant-loop-op
invariant-loop-op l = Left op_uses l.limit l.next l.op-index l.ops (counted_within l.limit l.fn.next (flat_map op_uses l.ops))
