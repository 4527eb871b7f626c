use Rattle.pl_store.specs.Linked.{key_view}
use Rattle.goal_moves.proofs.NextLaws.{nothing_fits, fits_next}
use Rattle.goal_moves.proofs.procedures.try_clause.Goals as goal

pub try_last-requires-clause-last : goal.try_last-requires-clause-last
try_last-requires-clause-last c = nothing_fits c.args.compiled.now c.args.path.now c.args.attempt.now c.args.clause.0 (key_view c.args.key) c.requires.key c.in-None.ensures

pub try_one-requires-clause-next : goal.try_one-requires-clause-next
try_one-requires-clause-next c = fits_next c.args.compiled.now c.args.path.now c.args.attempt.now c.args.clause.0 c.in-Some.next.0 (key_view c.args.key) c.requires.key c.in-Some.ensures
