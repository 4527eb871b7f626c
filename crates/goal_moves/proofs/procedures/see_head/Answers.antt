use Rattle.std.proofs.Common.{subst}
use Rattle.pl_terms.specs.Cells.{IsTerm}
use Rattle.goal_moves.specs.Clauses.{IsProper}
use Rattle.goal_moves.proofs.Proper.{term_proper}
use Rattle.goal_moves.proofs.procedures.see_head.Goals as goal

pub returns : goal.returns
returns c = subst IsProper c.clause.ensures.head (term_proper c.clause.result.1.now (subst IsTerm c.cells-cells.ensures.same c.cells-cells.ensures.whole))
