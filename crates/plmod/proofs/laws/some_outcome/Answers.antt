use Rattle.plmod.proofs.SomeOutcome.{some_outcome}
use Rattle.plmod.proofs.laws.some_outcome.Goals as goal

pub returns : goal.returns
returns c = some_outcome c.goals_are_decided.ensures
