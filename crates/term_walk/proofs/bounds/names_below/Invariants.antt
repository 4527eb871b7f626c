use Rattle.std.proofs.Common.{length}
use Rattle.pl_terms.specs.NameBounds.{AllNamesBelow}
use Rattle.term_walk.specs.Walks.{size}
use Rattle.term_walk.proofs.bounds.names_below.Given as goal

abbrev pub invariant-loop-cell : goal.invariant-loop-cell
invariant-loop-cell l = record {
  up : AllNamesBelow (length l.names) l.walk → AllNamesBelow (length l.names) l.initial.walk;
  down : AllNamesBelow (length l.names) l.initial.walk → AllNamesBelow (length l.names) l.walk;
}

abbrev pub decreases-loop-cell : goal.decreases-loop-cell
decreases-loop-cell l = size l.walk
