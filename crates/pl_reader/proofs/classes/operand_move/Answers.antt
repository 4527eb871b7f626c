use Rattle.std.proofs.Common.{subst}
use Rattle.pl_ops.specs.Tables.{operator}
use Rattle.pl_reader.specs.Moves.{SymbolIs}
use Rattle.pl_reader.specs.declared.classes.Symbol.{Symbol}
use Rattle.pl_reader.proofs.TokenMoves.{at_word, at_number, at_mark}
use Rattle.pl_reader.proofs.classes.operand_move.Goals as goal

pub returns-in-Word : goal.returns-in-Word
returns-in-Word c = λ num l t u are h k j.
    let P : Symbol → Type 0 = λ x. SymbolIs num x c.args.text.now l in
    at_word num (operator c.args.table.now) c.in-Word.name c.args.text.now l t u c.word_move.result (subst P c.in-Word.is h) (λ e. c.word_move.ensures num t u e k)

pub returns-in-Number : goal.returns-in-Number
returns-in-Number c = λ num l t u are h k j.
    let P : Symbol → Type 0 = λ x. SymbolIs num x c.args.text.now l in
    at_number num (operator c.args.table.now) c.in-Number.n c.args.text.now l t u c.number_operand.result (subst P c.in-Number.is h) (c.number_operand.ensures num (operator c.args.table.now) t u)

pub returns-in-Mark : goal.returns-in-Mark
returns-in-Mark c = λ num l t u are h k j.
    let P : Symbol → Type 0 = λ x. SymbolIs num x c.args.text.now l in
    at_mark num (operator c.args.table.now) c.in-Mark.c c.args.text.now l t u c.open_move.result (subst P c.in-Mark.is h) (c.open_move.ensures num (operator c.args.table.now) t u are k j)
