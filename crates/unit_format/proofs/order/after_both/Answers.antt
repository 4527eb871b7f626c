use Rattle.std.proofs.Common.{sym, ap, ◌∙◌}
use Rattle.pl_terms.specs.Occurrence.{occurrences}
use Rattle.unit_format.specs.Counting.{counted_within}
use Rattle.unit_format.proofs.CountLoop.{counted_more, counted_none}
use Rattle.unit_format.proofs.UseLaws.{variables_of}
use Rattle.unit_format.proofs.order.after_both.Goals as goal

pub returns-in_err-next : goal.returns-in_err-next
returns-in_err-next c =
    c.from_residual.ensures
    ∙ sym (counted_none c.args.limit 0 (occurrences c.args.head.now) (occurrences c.args.body.now)
    (sym (c.in_err-next.ensures ∙ ap (counted_within c.args.limit 0) (variables_of c.args.head.now c.cells.result.now c.cells.ensures.same))))

pub returns : goal.returns
returns c =
    c.after_variables-2.ensures ∙ ap (counted_within c.args.limit c.in_ok-next.next) (variables_of c.args.body.now c.cells-2.result.now c.cells-2.ensures.same)
    ∙ sym (counted_more c.args.limit 0 c.in_ok-next.next (occurrences c.args.head.now) (occurrences c.args.body.now)
    (sym (c.in_ok-next.ensures ∙ ap (counted_within c.args.limit 0) (variables_of c.args.head.now c.cells.result.now c.cells.ensures.same))))
