use Rattle.std.proofs.Common.{◌≡◌, map, take}
use Rattle.unit_model.specs.Facts.{operator_by}
use Rattle.unit_model.specs.Views.{op_view}
use Rattle.unit_order.specs.Numbering.{number_in}
use Rattle.unit_order.proofs.renumbering.numbered_ops.Given as goal

abbrev pub invariant-loop-op : goal.invariant-loop-op
invariant-loop-op l = map op_view l.copy ≡ map (operator_by (number_in l.used)) (map op_view (take l.op-index l.ops))
