use Rattle.pl_builtin_ends.proofs.Ends.{Unifies-none}
use Rattle.pl_builtins.proofs.output.new_line.Goals as goal

pub returns-clause-done : goal.returns-clause-done
returns-clause-done c = Unifies-none
