use Rattle.std.proofs.Common.{ℕ, List, ◌++◌}
use Rattle.pl_terms.specs.declared.cell.Cell.{Cell}
use Rattle.pl_unify.specs.Load.{NewInOrder}
use Rattle.test_store.proofs.tests.terms.deep.Given as goal

abbrev pub invariant-loop : goal.invariant-loop
invariant-loop l = (n : ℕ) (rest : List Cell) → NewInOrder n n rest → NewInOrder n n (l.cells ++ rest)
