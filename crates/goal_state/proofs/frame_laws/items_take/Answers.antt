use Rattle.goal_state.proofs.FrameLaws.{items_take}
use Rattle.goal_state.proofs.frame_laws.items_take.Goals as goal

pub returns : goal.returns
returns c = items_take
