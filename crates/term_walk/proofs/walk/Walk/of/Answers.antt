use Rattle.std.proofs.Common.{ap, ◌∙◌}
use Rattle.pl_terms.specs.Cells.{forest}
use Rattle.term_walk.proofs.Walking.{forest-one}
use Rattle.term_walk.proofs.walk.Walk.of.Goals as goal

pub returns : goal.returns
returns c = ap forest c.cells.ensures.same ∙ forest-one c.args.term.now
