use Rattle.std.proofs.Common.{◌∙◌}
use Rattle.unit_format.proofs.NameLaws.{decides_utf8}
use Rattle.unit_format.proofs.fields.is_utf8.Goals as goal

pub returns : goal.returns
returns c = c.is_ok.ensures.value ∙ decides_utf8 c.args.text.now _ _ c.from_utf8.result c.from_utf8.ensures.cases
