use Rattle.preparing_laws.proofs.Ends.{interfaces-good}
use Rattle.preparing_laws.proofs.valid_is_good.Goals as goal

pub returns : goal.returns
returns c = interfaces-good
