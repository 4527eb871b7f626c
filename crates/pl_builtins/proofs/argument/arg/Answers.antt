use Rattle.pl_terms.specs.Trees.{var}
use Rattle.pl_builtins.proofs.argument.arg.Goals as goal

pub arg-found-requires-clause-argument : goal.arg-found-requires-clause-argument
arg-found-requires-clause-argument c = (c.in-Unify.ensures (var 0)).0
