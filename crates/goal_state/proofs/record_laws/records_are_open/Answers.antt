use Rattle.goal_state.proofs.OpenRecords.{records_open}
use Rattle.goal_state.proofs.record_laws.records_are_open.Goals as goal

pub returns : goal.returns
returns c = records_open
