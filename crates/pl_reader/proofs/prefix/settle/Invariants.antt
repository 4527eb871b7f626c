use Rattle.std.proofs.Common.{◌≡◌, List, vec_len}
use Rattle.pl_reader.specs.Turning.{settle, backed}
use Rattle.pl_reader.specs.declared.prefix.Pending.{Pending}
use Rattle.pl_reader.proofs.prefix.settle.Given as goal

abbrev pub invariant-settling : goal.invariant-settling
invariant-settling l = (ps : List Pending) → l.initial.pending.items ≡ backed ps → (qs : List Pending) × (l.pending.items ≡ backed qs) × (settle ps l.initial.out.items ≡ settle qs l.out.items)

abbrev pub decreases-settling : goal.decreases-settling
decreases-settling l = vec_len l.pending
