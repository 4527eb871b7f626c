use Rattle.text_model.specs.Tokens.{is_alnum}
use Rattle.pl_tokens.proofs.Fronts.{front_cut}
use Rattle.pl_tokens.proofs.classes.word.Goals as goal

pub returns-clause-value : goal.returns-clause-value
returns-clause-value c = front_cut is_alnum c.args.rest.now _ c.word_len.ensures.value
