use Rattle.unit_format.proofs.SetLaws.{OwnLeft}
use Rattle.unit_format.proofs.modules.own_modules.Given as goal

abbrev pub invariant-loop-section : goal.invariant-loop-section
invariant-loop-section l = OwnLeft l.own.ids.keys l.section-index l.sections
