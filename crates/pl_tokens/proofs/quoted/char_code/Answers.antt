use Rattle.pl_tokens.proofs.Characters.{first_of_encoded}
use Rattle.pl_tokens.proofs.quoted.char_code.Goals as goal

pub returns : goal.returns
returns c = first_of_encoded c.args.c c.ranges.c.0
