use Rattle.goal_model.proofs.ConversionProofs.{converts_alike}
use Rattle.goal_model.proofs.laws.converts_alike.Goals as goal

pub returns : goal.returns
returns c = converts_alike
