use Rattle.goal_state.proofs.StoreLaws.{fits_stay}
use Rattle.goal_state.proofs.frame_laws.fits_stay.Goals as goal

pub returns : goal.returns
returns c = fits_stay
