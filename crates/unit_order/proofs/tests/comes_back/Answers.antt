use Rattle.std.proofs.Common.{sym, subst}
use Rattle.unit_model.specs.Entries.{IsSound}
use Rattle.unit_order.proofs.Shuffling.{is_sound}
use Rattle.unit_order.proofs.tests.comes_back.Goals as goal

pub ordered-requires-clause-sound : goal.ordered-requires-clause-sound
ordered-requires-clause-sound c = subst IsSound (sym c.in_ok-names.ensures.same) (is_sound _ c.in_ok-unit.ensures.found.valid)
