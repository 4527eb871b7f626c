use Rattle.std.proofs.Common.{◌≡◌, Some}
use Rattle.pl_terms.specs.Order.{text_of}
use Rattle.unit_model.specs.Directives.{both}
use Rattle.term_walk.specs.Items.{front_modes}
use Rattle.term_walk.proofs.items.modes_of.Given as goal

abbrev pub invariant-loop-count : goal.invariant-loop-count
invariant-loop-count l = both (Some l.modes) (front_modes (text_of l.names) l.count l.args) ≡ both (Some l.initial.modes) (front_modes (text_of l.names) l.initial.count l.initial.args)

abbrev pub decreases-loop-count : goal.decreases-loop-count
decreases-loop-count l = l.count
