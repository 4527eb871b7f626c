use Rattle.std.proofs.Common.{◌≡◌, take, map}
use Rattle.std.specs.Prelude.{is_some}
use Rattle.pl_ops.specs.Tables.{operator, infix_class}
use Rattle.unit_format.proofs.operators.infixes_of.Given as goal

abbrev pub invariant-loop-place : goal.invariant-loop-place
invariant-loop-place l = l.infixes.items ≡ map (λ s. is_some (operator l.table infix_class s)) (take l.place l.names)
