use Rattle.reading_laws.proofs.Runs.{RunsProceed-holds}
use Rattle.reading_laws.proofs.laws.runs_proceed.Goals as goal

pub returns : goal.returns
returns c = RunsProceed-holds
