use Rattle.std.proofs.Common.{ℕ, subst, sym}
use Rattle.std.specs.Prelude.{codes}
use Rattle.text_model.specs.Tokens.{punctuation}
use Rattle.text_model.specs.Reading.{operand_move}
use Rattle.pl_reader.specs.Moves.{MoveIs}
use Rattle.pl_reader.proofs.classes.open_move.Goals as goal

pub returns-in-91 : goal.returns-in-91
returns-in-91 c = λ num look t u are h g.
    let P : ℕ → Type 0 = λ x. MoveIs num c.bracket_move.result (operand_move look (punctuation x) t u) in
    subst P (sym c.in-91.is) (c.bracket_move.ensures num look (codes "[]") t u are.nil_is h g)

pub returns-in-123 : goal.returns-in-123
returns-in-123 c = λ num look t u are h g.
    let P : ℕ → Type 0 = λ x. MoveIs num c.bracket_move-in-123.result (operand_move look (punctuation x) t u) in
    subst P (sym c.in-123.is) (c.bracket_move-in-123.ensures num look (codes "{}") t u are.curly_is h g)
