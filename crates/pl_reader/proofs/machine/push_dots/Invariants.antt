use Rattle.std.proofs.Common.{◌≡◌, ◌++◌}
use Rattle.pl_reader.specs.Standing.{dots}
use Rattle.pl_reader.proofs.machine.push_dots.Given as goal

abbrev pub invariant-loop : goal.invariant-loop
invariant-loop l = l.out.items ≡ l.fn.out.items ++ dots l.dot l.counter
