use Rattle.goal_state.proofs.FrameLaws.{nothing_outside}
use Rattle.goal_state.proofs.frame_laws.nothing_outside.Goals as goal

pub returns : goal.returns
returns c = nothing_outside
