use Rattle.std.proofs.Common.{◌≡◌, take}
use Rattle.pl_store.specs.Linked.{empty, with_names}
use Rattle.mod_linker.proofs.naming.named.Given as goal

abbrev pub invariant-loop-place : goal.invariant-loop-place
invariant-loop-place l = l.program ≡ with_names empty (take l.place l.names)
