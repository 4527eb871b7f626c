use Rattle.plmod.proofs.OneOutcome.{one_outcome}
use Rattle.plmod.proofs.laws.one_outcome.Goals as goal

pub returns : goal.returns
returns c = one_outcome c.goals_are_decided.ensures c.texts_are_one_whole.ensures
