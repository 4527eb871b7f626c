use Rattle.goal_state.proofs.FrameLaws.{frames_read}
use Rattle.goal_state.proofs.frame_laws.frames_read.Goals as goal

pub returns : goal.returns
returns c = frames_read
