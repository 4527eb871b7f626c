use Rattle.std.proofs.Common.{take}
use Rattle.mod_faults.specs.Repeating.{Repeats, interfaces_here}
use Rattle.mod_faults.proofs.interfaces.repeated_in.Given as goal

abbrev pub invariant-loop-section : goal.invariant-loop-section
invariant-loop-section l = Repeats (interfaces_here l.unit l.names (take l.section-index l.sections)) l.initial.seen l.seen l.initial.out.items l.out.items
