use Rattle.std.proofs.Common.{subst}
use Rattle.goal_runs.specs.Runs.{HasMachine}
use Rattle.test_runs.proofs.tests.runs.finished.Goals as goal

pub returns-in-Ok-Ended : goal.returns-in-Ok-Ended
returns-in-Ok-Ended g c = subst HasMachine c.in-Ok-Ended.field-0-is c.in-Ok-Ended.ensures.machine
