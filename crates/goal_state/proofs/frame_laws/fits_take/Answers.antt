use Rattle.goal_state.proofs.StoreLaws.{fits_take}
use Rattle.goal_state.proofs.frame_laws.fits_take.Goals as goal

pub returns : goal.returns
returns c = fits_take
