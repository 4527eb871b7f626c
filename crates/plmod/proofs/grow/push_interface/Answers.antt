use Rattle.plmod.proofs.GrowParts.{interface_made}
use Rattle.plmod.proofs.grow.push_interface.Goals as goal

pub returns : goal.returns
returns c = interface_made c.args.number _ _ _ _ _ c.in_ok-push_numbered.ensures c.in_ok-push_numbered-2.ensures c.in_ok-push_numbered-3.ensures c.in_ok-extend_from_slice.ensures.ok
