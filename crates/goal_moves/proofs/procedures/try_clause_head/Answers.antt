use Rattle.goal_moves.proofs.TryLaws.{heads_agree}
use Rattle.goal_moves.proofs.procedures.try_clause_head.Goals as goal

pub try_head-requires-clause-same : goal.try_head-requires-clause-same
try_head-requires-clause-same c = heads_agree c.args.compiled.now c.args.path.now c.args.goal c.args.clause.0 c.get-code.result.now c.requires.compiled c.requires.store c.requires.goal c.requires.fits c.see_head.ensures c.get-code.ensures
