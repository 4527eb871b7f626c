use Rattle.pl_ops.specs.Tables.{operator}
use Rattle.pl_reader.proofs.TokenMoves.{first_some}
use Rattle.pl_reader.proofs.classes.word_move.Goals as goal

pub returns-in-Some : goal.returns-in-Some
returns-in-Some c = λ num t u h k. first_some num (operator c.args.table.now) _ _ c.in-Some.number (c.in-Some.ensures num (operator c.args.table.now) t k)
