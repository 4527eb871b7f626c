use Rattle.std.proofs.Common.{◌≡◌, ◌++◌, take, map}
use Rattle.std.specs.List.{flat_map}
use Rattle.unit_model.specs.Views.{need_view}
use Rattle.unit_model.specs.Encoding.{need_bytes}
use Rattle.unit_format.proofs.writing.put_each_need.Given as goal

abbrev pub invariant-loop-need : goal.invariant-loop-need
invariant-loop-need l = l.out ≡ l.initial.out ++ flat_map need_bytes (map need_view (take l.need-index l.needs))
