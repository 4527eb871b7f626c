use Rattle.test_runs.proofs.tests.runs.counts.Goals as goal

pub steps-requires : goal.steps-requires
steps-requires c = c.requires
