use Rattle.goal_code.proofs.ContinuationLaws.{items_follow}
use Rattle.goal_code.proofs.laws.items_follow.Goals as goal

pub returns : goal.returns
returns c = items_follow
