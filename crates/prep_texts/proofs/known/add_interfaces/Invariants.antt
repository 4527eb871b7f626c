use Rattle.prep_texts.proofs.GivenLaws.{Giving}
use Rattle.prep_texts.proofs.known.add_interfaces.Given as goal

abbrev pub invariant-adding : goal.invariant-adding
invariant-adding l = Giving l.unit.names l.initial.interfaces l.interfaces l.section-items l.section-index
