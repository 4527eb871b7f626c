use Rattle.unit_format.proofs.SetLaws.{NeedsLeft}
use Rattle.unit_format.proofs.modules.add_needs.Given as goal

abbrev pub invariant-loop-need : goal.invariant-loop-need
invariant-loop-need l = NeedsLeft l.names l.known.ids.keys l.initial.known.ids.keys l.need-index l.needs
