use Rattle.plmod.proofs.GrowParts.{directive_made}
use Rattle.plmod.proofs.grow.push_directive.Goals as goal

pub returns : goal.returns
returns c = directive_made c.args.word.now _ _ _ c.args.number c.in_ok-push_numbered.ensures c.in_ok-extend_from_slice.ensures.ok
