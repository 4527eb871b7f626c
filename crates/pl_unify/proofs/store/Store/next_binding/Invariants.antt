use Rattle.std.proofs.Common.{ℕ, length, reverse, Option, List}
use Rattle.pl_terms.specs.Trees.{Tree}
use Rattle.unifier_model.specs.Unifier.{Solved}
use Rattle.pl_unify.specs.Steps.{PairsBelow, equations}
use Rattle.pl_unify.proofs.Solving.{weight}
use Rattle.pl_unify.proofs.store.Store.next_binding.Given as goal

abbrev pub invariant-loop-p : goal.invariant-loop-p
invariant-loop-p l = record {
  below : PairsBelow (length l.self.state.cells) (reverse l.work.items);
  reduces : (x : Option (List (ℕ × Tree ℕ))) → Solved (equations l.self.state l.work.items) x → Solved (equations l.self.state l.initial.work.items) x;
}

abbrev pub decreases-loop-p : goal.decreases-loop-p
decreases-loop-p l = weight (equations l.self.state l.work.items)
