use Rattle.goal_constructs.specs.Constructs.{row_key}
use Rattle.goal_constructs.proofs.constructs.Rows.put.Goals as goal

pub returns : goal.returns
returns c = λ f k. c.in_ok-insert.ensures.updates.0 (row_key f k)
