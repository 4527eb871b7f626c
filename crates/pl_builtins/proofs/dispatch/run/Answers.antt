use Rattle.std.proofs.Common.{arith}
use Rattle.builtin_model.specs.Naming.{by_numbers}
use Rattle.pl_builtins.proofs.Ended.{long-text}
use Rattle.pl_builtins.proofs.dispatch.run.Goals as goal

pub returns-in-len3-clause-text : goal.returns-in-len3-clause-text
returns-in-len3-clause-text c = long-text c.run_three.result (by_numbers c.run_three.new.names) c.args.row c.args.store.now.state c.args.args.now c.args.text.now (omega (arith, c.in-len3.len_at_least))
