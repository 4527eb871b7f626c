use Rattle.std.proofs.Common.{◌∙◌}
use Rattle.unit_format.proofs.BodyLaws.{is_head-cells}
use Rattle.unit_format.proofs.clauses.is_head.Goals as goal

pub returns : goal.returns
returns c = c.begins_head.ensures ∙ is_head-cells c.args.head.now c.cells.result.now c.cells.ensures.same
