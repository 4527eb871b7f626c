use Rattle.goal_state.proofs.StoreLaws.{items_move}
use Rattle.goal_state.proofs.frame_laws.items_move.Goals as goal

pub returns : goal.returns
returns c = items_move
