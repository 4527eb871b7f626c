use Rattle.plmod.proofs.GrowParts.{import_made}
use Rattle.plmod.proofs.grow.push_import.Goals as goal

pub returns : goal.returns
returns c = import_made c.args.number _ _ _ _ c.in_ok-push_numbered.ensures c.in_ok-push_numbered-2.ensures c.in_ok-extend_from_slice.ensures.ok
