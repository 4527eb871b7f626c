use Rattle.std.proofs.Common.{◌≡◌, take}
use Rattle.pl_machine.proofs.machine.named.Given as goal

abbrev pub invariant-loop-variable : goal.invariant-loop-variable
invariant-loop-variable l = l.variables.items ≡ take l.variable-index l.names
