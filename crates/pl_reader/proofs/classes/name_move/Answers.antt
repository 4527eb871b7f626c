use Rattle.pl_ops.specs.Tables.{operator}
use Rattle.pl_reader.proofs.TokenMoves.{name_plain}
use Rattle.pl_reader.proofs.classes.name_move.Goals as goal

pub returns-in-None : goal.returns-in-None
returns-in-None c = λ num t h k.
    name_plain num (operator c.args.table.now) c.args.text.now c.args.name t c.unless_operator.result (c.if-is_call.ensures t k) (c.if-is_closer.ensures t k) c.in-None.ensures c.unless_operator.ensures h
