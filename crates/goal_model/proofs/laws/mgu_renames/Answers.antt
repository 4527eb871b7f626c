use Rattle.goal_model.proofs.RenamingProofs.{mgu-renamed}
use Rattle.goal_model.proofs.laws.mgu_renames.Goals as goal

pub returns : goal.returns
returns c = mgu-renamed
