use Rattle.pl_tokens.proofs.Running.{none_read, some_read}
use Rattle.pl_tokens.proofs.token_reader.run_out.Goals as goal

pub returns-then-tokens-eq0-clause-view : goal.returns-then-tokens-eq0-clause-view
returns-then-tokens-eq0-clause-view c = none_read c.args.tokens.now c.if-tokens-eq0.true

pub returns-else-tokens-eq0-clause-view : goal.returns-else-tokens-eq0-clause-view
returns-else-tokens-eq0-clause-view c = some_read c.args.tokens.now c.index-tokens-0.result c.if-tokens-eq0.false
