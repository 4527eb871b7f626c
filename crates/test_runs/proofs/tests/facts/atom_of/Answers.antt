use Rattle.test_runs.proofs.Entered.{one_name}
use Rattle.test_runs.proofs.tests.facts.atom_of.Goals as goal

pub returns : goal.returns
returns c = one_name c.in_ok-term.term c.args.name c.push.new.self c.new-buf.result c.in_ok-term.ensures c.in_ok-push.ensures.ok c.new-buf.ensures
