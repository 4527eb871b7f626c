use Rattle.std.proofs.Common.{◌<◌, length, sym, ap, ◌∙◌, arith}
use Rattle.std.specs.List.{take_while}
use Rattle.text_model.specs.Tokens.{is_symbol}
use Rattle.pl_tokens.proofs.Fronts.{front_some}
use Rattle.pl_tokens.proofs.lexer.other_token_at.Goals as goal

pub returns-in_ok-from_slice-clause-within : goal.returns-in_ok-from_slice-clause-within
returns-in_ok-from_slice-clause-within c =
    let some : 0 < length (take_while is_symbol c.args.rest.now) = front_some is_symbol c.args.rest.now c.requires (ap is_symbol (sym c.head_of-first.ensures.value) ∙ sym c.is_symbol.ensures ∙ c.if-is_symbol.true) in
    (omega (arith, some, ap length c.symbols-name.ensures.value), c.symbols-name.ensures.within)
