use Rattle.std.proofs.Common.{◌≡◌, ◌++◌, ◌∷◌, take}
use Rattle.std.specs.List.{flat_map}
use Rattle.text_model.specs.Writing.{escaped}
use Rattle.pl_writer.proofs.name.push_quoted.Given as goal

abbrev pub invariant-loop-b : goal.invariant-loop-b
invariant-loop-b l = l.out ≡ l.fn.out ++ 39 ∷ flat_map escaped (take l.b-index l.text)
