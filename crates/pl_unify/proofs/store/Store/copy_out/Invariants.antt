use Rattle.std.proofs.Common.{◌≡◌, ◌++◌, length, reverse, All}
use Rattle.unifier_model.specs.Substitution.{sizes}
use Rattle.pl_unify.specs.Prefix.{trees}
use Rattle.pl_terms.specs.Cells.{cells, all_cells, IsCell}
use Rattle.pl_unify.specs.State.{tree_at}
use Rattle.pl_unify.specs.Stack.{Below, stack}
use Rattle.pl_unify.proofs.store.Store.copy_out.Given as goal

abbrev pub invariant-loop-place : goal.invariant-loop-place
invariant-loop-place l = record {
  below : Below (length l.self.state.cells) (reverse l.work.items);
  fine : All IsCell l.cells;
  whole : l.cells ++ all_cells (trees (stack l.self.state l.work.items)) ≡ cells (tree_at l.self.state l.fn.at);
}

abbrev pub decreases-loop-place : goal.decreases-loop-place
decreases-loop-place l = sizes (trees (stack l.self.state l.work.items))
