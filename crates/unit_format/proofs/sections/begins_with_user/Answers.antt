use Rattle.std.proofs.Common.{sym, ◌∙◌}
use Rattle.unit_format.proofs.SetLaws.{begins_is}
use Rattle.unit_format.proofs.sections.begins_with_user.Goals as goal

pub returns-then-is_first : goal.returns-then-is_first
returns-then-is_first c = begins_is c.args.names.now c.args.sections.now c.first-item.result c.are_unreserved.result c.in-len1-up.len_at_least c.first-item.is (sym c.if-is_first.true ∙ c.is_first.ensures) c.are_unreserved.ensures
