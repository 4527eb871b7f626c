use Rattle.std.proofs.Common.{◌∙◌, ap}
use Rattle.unit_format.specs.Counting.{counted_within}
use Rattle.unit_format.proofs.UseLaws.{names_in}
use Rattle.unit_format.proofs.order.after_term.Goals as goal

pub returns : goal.returns
returns c = c.after_names.ensures ∙ ap (counted_within c.args.limit c.args.next) (names_in c.args.term.now c.cells.result.now c.cells.ensures.same)
