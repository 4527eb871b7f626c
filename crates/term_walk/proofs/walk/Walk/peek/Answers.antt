use Rattle.std.proofs.Common.{ap, ◌∙◌}
use Rattle.term_walk.specs.Walks.{first_cell}
use Rattle.term_walk.proofs.Walking.{peek-is}
use Rattle.term_walk.proofs.walk.Walk.peek.Goals as goal

pub returns : goal.returns
returns c = c.copied.ensures ∙ c.first.ensures.value ∙ peek-is _ c.self.invariant ∙ ap first_cell c.self.view_is
