use Rattle.std.proofs.Common.{All, take}
use Rattle.pl_terms.specs.NameBounds.{NameBelow}
use Rattle.pl_terms.proofs.tests.is_named.Given as goal

abbrev pub invariant-loop-item : goal.invariant-loop-item
invariant-loop-item l = All (NameBelow l.limit) (take l.item-index l.items)
