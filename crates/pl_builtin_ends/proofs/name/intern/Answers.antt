use Rattle.std.proofs.Common.{◌∙◌, sym}
use Rattle.pl_builtin_ends.proofs.Known.{number-known}
use Rattle.pl_builtin_ends.proofs.Kept.{with_text-there}
use Rattle.pl_builtin_ends.proofs.name.intern.Goals as goal

pub returns-clause-number : goal.returns-clause-number
returns-clause-number c = sym (number-known c.intern.new.self c.len-count.ensures.distinct c.args.text.now c.in_ok-name.name.0 c.in_ok-name.ensures.number)

pub returns-clause-there : goal.returns-clause-there
returns-clause-there c = λ h. c.in_ok-name.ensures.ok ∙ with_text-there c.args.names.now c.args.text.now h
