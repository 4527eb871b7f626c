use Rattle.std.proofs.Common.{sym, ◌∙◌}
use Rattle.unit_format.specs.Rules.{holds_id}
use Rattle.unit_format.proofs.SetLaws.{known_is}
use Rattle.unit_format.proofs.modules.all_known.Goals as goal

pub returns-then-entries_known : goal.returns-then-entries_known
returns-then-entries_known c = known_is (holds_id c.args.known.now.ids.keys) c.args.sections.now c.first-item.result c.are_known.result c.in-len1-up.len_at_least c.first-item.is (sym c.if-entries_known.true ∙ c.entries_known.ensures) c.are_known.ensures
