use Rattle.text_model.specs.Tokens.{is_symbol}
use Rattle.pl_tokens.proofs.Fronts.{front_cut}
use Rattle.pl_tokens.proofs.classes.symbols.Goals as goal

pub returns-clause-value : goal.returns-clause-value
returns-clause-value c = front_cut is_symbol c.args.rest.now _ c.symbols_len.ensures.value
