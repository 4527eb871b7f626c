use Rattle.std.proofs.Common.{◌≡◌, take}
use Rattle.std.specs.List.{flat_map}
use Rattle.unit_format.specs.Uses.{op_uses}
use Rattle.unit_order.specs.Numbering.{all_noted}
use Rattle.unit_order.proofs.uses.note_ops.Given as goal

abbrev pub invariant-loop-op : goal.invariant-loop-op
invariant-loop-op l = l.used ≡ all_noted l.initial.used (flat_map op_uses (take l.op-index l.ops))
