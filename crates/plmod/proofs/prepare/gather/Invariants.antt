use Rattle.std.proofs.Common.{take}
use Rattle.plmod.proofs.Units.{Gathered}
use Rattle.plmod.proofs.prepare.gather.Given as goal

abbrev pub invariant-loop-place : goal.invariant-loop-place
invariant-loop-place l = record {
  so_far : Gathered (take l.place l.contents) l.known;
}
