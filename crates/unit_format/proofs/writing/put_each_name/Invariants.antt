use Rattle.std.proofs.Common.{◌≡◌, ◌++◌, take}
use Rattle.std.specs.List.{flat_map}
use Rattle.unit_model.specs.Encoding.{name_bytes}
use Rattle.unit_format.proofs.writing.put_each_name.Given as goal

abbrev pub invariant-loop-place : goal.invariant-loop-place
invariant-loop-place l = l.out ≡ l.initial.out ++ flat_map name_bytes (take l.place l.names)
