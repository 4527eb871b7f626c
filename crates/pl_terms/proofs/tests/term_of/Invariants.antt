use Rattle.std.proofs.Common.{◌≡◌, take}
use Rattle.pl_terms.proofs.tests.term_of.Given as goal

abbrev pub invariant-loop-item : goal.invariant-loop-item
invariant-loop-item l = l.buf ≡ take l.item-index l.items
