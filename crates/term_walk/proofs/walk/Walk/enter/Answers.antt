use Rattle.std.proofs.Common.{ap, ◌∙◌}
use Rattle.pl_terms.specs.Cells.{forest}
use Rattle.term_walk.specs.Walks.{entered}
use Rattle.term_walk.proofs.Walking.{entered-drop, size-less-at}
use Rattle.term_walk.proofs.walk.Walk.enter.Goals as goal

pub returns-then-not-is_empty-clause-trees : goal.returns-then-not-is_empty-clause-trees
returns-then-not-is_empty-clause-trees c = ap forest c.split_at.ensures.back ∙ entered-drop _ ∙ ap entered c.self.view_is

pub returns-then-not-is_empty-clause-less : goal.returns-then-not-is_empty-clause-less
returns-then-not-is_empty-clause-less c = λ some. size-less-at _ _ _ c.split_at.ensures.back c.self.view_is c.self.invariant some
