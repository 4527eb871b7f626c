use Rattle.pl_unify.specs.Code.{VarsBelow}
use Rattle.test_runs.proofs.tests.heads.code_of.Given as goal

abbrev pub invariant-loop-cell : goal.invariant-loop-cell
invariant-loop-cell l = VarsBelow l.vars l.cells
