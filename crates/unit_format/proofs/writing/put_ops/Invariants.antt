use Rattle.std.proofs.Common.{◌≡◌, ◌++◌, take}
use Rattle.std.specs.List.{flat_map}
use Rattle.unit_model.specs.Views.{ops_view}
use Rattle.unit_model.specs.Encoding.{operator_bytes}
use Rattle.unit_format.proofs.writing.put_ops.Given as goal

abbrev pub invariant-loop-op : goal.invariant-loop-op
invariant-loop-op l = l.out ≡ l.initial.out ++ flat_map operator_bytes (ops_view (take l.op-index l.ops))
