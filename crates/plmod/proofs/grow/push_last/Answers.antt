use Rattle.plmod.proofs.GrowParts.{last_made}
use Rattle.plmod.proofs.grow.push_last.Goals as goal

pub returns : goal.returns
returns c = last_made c.args.number _ _ _ _ c.in_ok-push_import.ensures c.in_ok-push_numbered.ensures c.in_ok-extend_from_slice.ensures.ok
