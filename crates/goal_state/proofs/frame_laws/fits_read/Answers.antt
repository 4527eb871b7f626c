use Rattle.goal_state.proofs.StoreLaws.{fits_read}
use Rattle.goal_state.proofs.frame_laws.fits_read.Goals as goal

pub returns : goal.returns
returns c = fits_read
