use Rattle.goal_code.proofs.ContinuationLaws.{body_items_are}
use Rattle.goal_code.proofs.laws.body_items_are.Goals as goal

pub returns : goal.returns
returns c = body_items_are
