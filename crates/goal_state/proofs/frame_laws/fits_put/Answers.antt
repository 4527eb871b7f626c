use Rattle.goal_state.proofs.StoreLaws.{fits_put}
use Rattle.goal_state.proofs.frame_laws.fits_put.Goals as goal

pub returns : goal.returns
returns c = fits_put
