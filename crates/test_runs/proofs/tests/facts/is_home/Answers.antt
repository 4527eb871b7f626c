use Rattle.test_runs.proofs.Entered.{is_there}
use Rattle.test_runs.proofs.tests.facts.is_home.Goals as goal

pub returns : goal.returns
returns c =
    is_there c.args.program.now c.tables.result.now c.names-2.result.now c.args.home.0 c.exists.result c.tables.ensures.tables c.names-2.ensures.names c.exists.ensures
