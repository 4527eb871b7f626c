use Rattle.std.proofs.Common.{sym, ap, ◌∙◌}
use Rattle.std.specs.Str.{chars}
use Rattle.std.proofs.lemmas.Str.{chars-nil}
use Rattle.text_model.specs.Tokens.{head_of}
use Rattle.pl_tokens.specs.Lexing.{part_bytes}
use Rattle.pl_tokens.proofs.quoted.part_char.Goals as goal

pub returns-in-Nothing : goal.returns-in-Nothing
returns-in-Nothing c = sym (ap (λ p. head_of (chars (part_bytes p c.args.n c.args.rest.now))) c.in-Nothing.is ∙ ap head_of chars-nil)
