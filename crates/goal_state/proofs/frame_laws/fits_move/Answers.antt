use Rattle.goal_state.proofs.StoreLaws.{fits_move}
use Rattle.goal_state.proofs.frame_laws.fits_move.Goals as goal

pub returns : goal.returns
returns c = fits_move
