use Rattle.std.proofs.Common.{◌≡◌, take, slice_index, fold}
use Rattle.mod_faults.specs.Needing.{stamps_in, learned}
use Rattle.mod_faults.proofs.needs.learn.Given as goal

abbrev pub invariant-loop-section : goal.invariant-loop-section
invariant-loop-section l = stamps_in l.stamps.all.keys ≡ fold (learned (slice_index l.remap)) (stamps_in l.initial.stamps.all.keys) (take l.section-index l.sections)
