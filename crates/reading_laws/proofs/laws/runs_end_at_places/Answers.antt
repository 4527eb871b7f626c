use Rattle.reading_laws.proofs.Runs.{RunsEndAtPlaces-holds}
use Rattle.reading_laws.proofs.laws.runs_end_at_places.Goals as goal

pub returns : goal.returns
returns c = RunsEndAtPlaces-holds
