use Rattle.std.proofs.Common.{◌≡◌, All, Some}
use Rattle.pl_terms.specs.Order.{text_of}
use Rattle.pl_terms.specs.Cells.{IsCell}
use Rattle.unit_model.specs.Directives.{both}
use Rattle.term_walk.specs.Walks.{size}
use Rattle.mod_body.specs.Converting.{goal_cells}
use Rattle.mod_body.proofs.convert.converted.Given as goal

abbrev pub invariant-loop-goals : goal.invariant-loop-goals
invariant-loop-goals l = record {
  cells : both (Some l.out) (goal_cells (text_of l.names) l.call.0 l.goals) ≡ both (Some l.initial.out) (goal_cells (text_of l.names) l.call.0 l.initial.goals);
  are : All IsCell l.out;
}

abbrev pub decreases-loop-goals : goal.decreases-loop-goals
decreases-loop-goals l = size l.goals
