use Rattle.goal_state.proofs.StoreLaws.{items_stay}
use Rattle.goal_state.proofs.frame_laws.items_stay.Goals as goal

pub returns : goal.returns
returns c = items_stay
