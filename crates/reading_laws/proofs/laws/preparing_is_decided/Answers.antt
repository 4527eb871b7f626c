use Rattle.reading_laws.proofs.Decided.{PreparingIsDecided-holds}
use Rattle.reading_laws.proofs.laws.preparing_is_decided.Goals as goal

pub returns : goal.returns
returns c = PreparingIsDecided-holds
