use Rattle.clause_code.proofs.ReadyLaws.{head-vars, body-vars}
use Rattle.clause_code.proofs.codes.code_of.Goals as goal

pub of-requires-clause-vars : goal.of-requires-clause-vars
of-requires-clause-vars c = head-vars c.args.vars c.args.head.now c.args.body.now c.requires.numbered

pub of-requires-2-clause-vars : goal.of-requires-2-clause-vars
of-requires-2-clause-vars c = body-vars c.args.vars c.args.head.now c.args.body.now c.requires.numbered
