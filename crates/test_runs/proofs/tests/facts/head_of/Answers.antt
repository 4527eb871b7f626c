use Rattle.std.proofs.lemmas.Int.{to_z-of_z}
use Rattle.test_runs.proofs.Entered.{one_argument}
use Rattle.test_runs.proofs.tests.facts.head_of.Goals as goal

pub returns : goal.returns
returns c =
    one_argument c.in_ok-term.term c.args.name c.args.value c.push.new.self c.push-2.new.self c.new-buf.result c.in_ok-term.ensures (simp (to_z-of_z, c.ranges.value) at c.in_ok-push-2.ensures.ok) c.in_ok-push.ensures.ok c.new-buf.ensures
