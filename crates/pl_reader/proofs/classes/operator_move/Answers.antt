use Rattle.std.proofs.Common.{ℕ, List, Option, subst}
use Rattle.pl_ops.specs.Tables.{Operators, operator}
use Rattle.text_model.specs.Tokens.{Lexeme, punctuation}
use Rattle.text_model.specs.Reading.{operator_move}
use Rattle.pl_reader.specs.Moves.{MoveIs, SymbolIs}
use Rattle.pl_reader.specs.declared.classes.Symbol.{Symbol}
use Rattle.pl_reader.specs.declared.classes.Symbol.TheVariants.{Mark}
use Rattle.pl_reader.specs.declared.classes.ItemMove.{ItemMove}
use Rattle.pl_reader.proofs.classes.operator_move.Goals as goal

at_mark : (num : List ℕ → ℕ) (look : Operators) (text : List ℕ) (l : Lexeme ℕ) (k : ℕ) (r : Option ItemMove) → SymbolIs num (Mark k) text l → MoveIs num r (operator_move look (punctuation k)) → MoveIs num r (operator_move look l)
at_mark num look text (punctuation d) k r h m = let P : ℕ → Type 0 = λ x. MoveIs num r (operator_move look (punctuation x)) in subst P h m
at_mark num look text _ k r h m = absurd h

pub returns-in-Mark : goal.returns-in-Mark
returns-in-Mark c = λ num l h.
    at_mark num (operator c.args.table.now) c.args.text.now l c.in-Mark.c c.mark_move.result (let P : Symbol → Type 0 = λ x. SymbolIs num x c.args.text.now l in subst P c.in-Mark.is h) (c.mark_move.ensures num (operator c.args.table.now))
