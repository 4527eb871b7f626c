use Rattle.std.proofs.Common.{◌≡◌, ◌≤◌, length, drop}
use Rattle.pl_terms.specs.Trees.{count}
use Rattle.pl_terms.specs.Cells.{forest, IsForest}
use Rattle.pl_terms.proofs.term.is_term.Given as goal

abbrev pub invariant-loop-at : goal.invariant-loop-at
invariant-loop-at l = record {
  in_range : l.at ≤ length l.cells;
  whole : IsForest (drop l.at l.cells);
  counted : count (forest (drop l.at l.cells)) ≡ l.trees;
}

abbrev pub decreases-loop-at : goal.decreases-loop-at
decreases-loop-at l = l.at
