use Rattle.test_runs.proofs.tests.runs.run_alone.Goals as goal

pub counts-requires : goal.counts-requires
counts-requires g c = c.in_ok-run.ensures
