use Rattle.text_model.specs.Tokens.{is_digit_of}
use Rattle.pl_tokens.proofs.Fronts.{front_cut}
use Rattle.pl_tokens.proofs.numeral.digits_of.Goals as goal

pub returns-clause-value : goal.returns-clause-value
returns-clause-value c = front_cut (is_digit_of c.args.base) c.args.rest.now _ c.digits_len.ensures.value
