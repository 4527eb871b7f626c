use Rattle.std.proofs.Common.{◌-◌}
use Rattle.plmod.specs.Growing.{import_line}
use Rattle.plmod.proofs.GrowParts.{after_first, only_first}
use Rattle.plmod.proofs.grow.push_needed.Goals as goal

pub returns-in_ok-push_import : goal.returns-in_ok-push_import
returns-in_ok-push_import c = after_first c.args.number (import_line (c.args.number - 1)) _ _ c.if-number-gt1.true c.in_ok-push_import.ensures

pub returns-else-number-gt1 : goal.returns-else-number-gt1
returns-else-number-gt1 c = only_first c.args.number (import_line (c.args.number - 1)) _ c.if-number-gt1.false
