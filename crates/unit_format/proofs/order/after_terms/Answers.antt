use Rattle.std.proofs.Common.{sym, ◌∙◌}
use Rattle.unit_model.specs.Facts.{tree_names}
use Rattle.unit_format.proofs.CountLoop.{counted_more, counted_none}
use Rattle.unit_format.proofs.order.after_terms.Goals as goal

pub returns-in_err-next : goal.returns-in_err-next
returns-in_err-next c = c.from_residual.ensures ∙ sym (counted_none c.args.limit c.args.next (tree_names c.args.head.now) (tree_names c.args.body.now) (sym c.in_err-next.ensures))

pub returns : goal.returns
returns c = c.after_term-2.ensures ∙ sym (counted_more c.args.limit c.args.next c.in_ok-next.next (tree_names c.args.head.now) (tree_names c.args.body.now) (sym c.in_ok-next.ensures))
