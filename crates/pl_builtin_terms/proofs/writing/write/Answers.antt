use Rattle.pl_builtin_ends.proofs.Ends.{Unifies-none}
use Rattle.pl_builtin_terms.proofs.writing.write.Goals as goal

pub returns-clause-done : goal.returns-clause-done
returns-clause-done c = Unifies-none c.args.store.now.state
