use Rattle.std.proofs.Common.{Some, None, ap, ◌∙◌, subst, if◌then◌else◌}
use Rattle.pl_tokens.specs.declared.token.TokenKind.{TokenKind}
use Rattle.pl_reader.specs.Moves.{KindIs}
use Rattle.pl_reader.proofs.TokenMoves.{minus_int, signed}
use Rattle.pl_reader.proofs.classes.minus_move.Goals as goal

pub returns-in-Int : goal.returns-in-Int
returns-in-Int c = λ num look t h.
    let P : TokenKind → Type 0 = λ k. KindIs k t.lexeme in
    minus_int num look c.args.text.now c.in-Int.n t.lexeme t.byte c.args.next.now.direct t.direct c.minus_number.result (subst P c.in-Int.is h.kind_is) h.direct_is
    (c.minus_number.ensures look ∙ ap (λ b. if b then Some (signed num look c.in-Int.n) else None) c.is_minus_before.ensures)
