use Rattle.std.proofs.Common.{◌≡◌}
use Rattle.pl_terms.specs.Order.{text_of}
use Rattle.term_walk.specs.Walks.{size}
use Rattle.mod_body.specs.Converting.{all_stay}
use Rattle.mod_body.proofs.convert.all_stay.Given as goal

abbrev pub invariant-loop-goals : goal.invariant-loop-goals
invariant-loop-goals l = all_stay (text_of l.names) l.goals ≡ all_stay (text_of l.names) l.initial.goals

abbrev pub decreases-loop-goals : goal.decreases-loop-goals
decreases-loop-goals l = size l.goals
