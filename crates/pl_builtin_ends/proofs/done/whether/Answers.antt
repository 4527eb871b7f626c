use Rattle.pl_builtin_ends.proofs.Ends.{whether-yes}
use Rattle.pl_builtin_ends.proofs.done.whether.Goals as goal

pub returns-then-yes : goal.returns-then-yes
returns-then-yes c = whether-yes c.args.yes c.if-yes.true
