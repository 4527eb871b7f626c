use Rattle.std.proofs.Common.{sym, ap, Err}
use Rattle.goal_state.specs.Denotation.{naming}
use Rattle.goal_moves.proofs.term_control.no_atom.Goals as goal

pub returns-clause-named : goal.returns-clause-named
returns-clause-named c = (c.in_ok-ball.ensures.place, ap Err (sym (c.in_ok-ball.ensures.tree (naming c.args.compiled.now) c.requires.compiled.constructs)))
