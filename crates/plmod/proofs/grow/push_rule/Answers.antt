use Rattle.plmod.specs.Growing.{rule_line}
use Rattle.plmod.proofs.GrowParts.{rule_made, after_first, only_first}
use Rattle.plmod.proofs.grow.push_rule.Goals as goal

pub returns-in_ok-extend_from_slice : goal.returns-in_ok-extend_from_slice
returns-in_ok-extend_from_slice c =
    after_first c.args.number (rule_line c.args.number) _ _ c.if-number-gt1.true
    (rule_made c.args.number _ _ _ _ c.in_ok-push_numbered.ensures c.in_ok-push_numbered-2.ensures c.in_ok-extend_from_slice.ensures.ok)

pub returns-else-number-gt1 : goal.returns-else-number-gt1
returns-else-number-gt1 c = only_first c.args.number (rule_line c.args.number) _ c.if-number-gt1.false
