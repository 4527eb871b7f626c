use Rattle.std.proofs.Common.{◌∙◌, ap}
use Rattle.pl_machine.specs.declared.machine.Machine.{Machine}
use Rattle.test_machine.proofs.tests.moves.goes_back.Goals as goal

pub back-requires-clause-compiled : goal.back-requires-clause-compiled
back-requires-clause-compiled c = c.requires.compiled

pub back-requires-clause-well : goal.back-requires-clause-well
back-requires-clause-well c = c.requires.well

pub returns : goal.returns
returns c = λ e. ap (λ (m : Machine). m.path.choices.items) (c.back.ensures.none e).1 ∙ (c.back.ensures.none e).0
