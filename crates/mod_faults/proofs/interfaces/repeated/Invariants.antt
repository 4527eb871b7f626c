use Rattle.std.proofs.Common.{take}
use Rattle.mod_faults.specs.Repeating.{Repeats}
use Rattle.mod_faults.proofs.Repeating.{so_far}
use Rattle.mod_faults.proofs.interfaces.repeated.Given as goal

abbrev pub invariant-loop-number : goal.invariant-loop-number
invariant-loop-number l = Repeats (so_far (take l.number l.units)) l.initial.seen l.seen l.initial.out.items l.out.items
