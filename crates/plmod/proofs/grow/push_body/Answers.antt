use Rattle.plmod.proofs.GrowParts.{body_made}
use Rattle.plmod.proofs.grow.push_body.Goals as goal

pub returns : goal.returns
returns c =
    body_made c.args.number _ _ _ _ _ _ c.in_ok-push_directive.ensures c.in_ok-push_needed.ensures c.in_ok-push_fact.ensures c.in_ok-push_rule.ensures c.in_ok-push_directive-2.ensures
