use Rattle.pl_ops.proofs.Standards.{op_at-at_most}
use Rattle.pl_ops.proofs.standard.op_of.Goals as goal

pub returns-clause-at_most : goal.returns-clause-at_most
returns-clause-at_most c = op_at-at_most c.args.value c.requires
