use Rattle.std.proofs.Common.{sym}
use Rattle.pl_unify.proofs.CodeMaking.{no_arguments, arity_of}
use Rattle.pl_unify.proofs.code.Code.arity.Goals as goal

pub returns-in-Comp : goal.returns-in-Comp
returns-in-Comp c = sym (arity_of c.args.self.now.words c.args.self.now.vars c.args.p c.in-Comp.arity c.in-Comp.field-1 c.in-Comp.field-2 c.in-Comp.field-3 c.word.ensures.code c.requires c.in-Comp.ensures.word)

pub returns-in_default : goal.returns-in_default
returns-in_default c = sym (no_arguments c.args.self.now.words c.args.self.now.vars c.args.p c.word.result c.word.ensures.code c.requires c.word.ensures.word c.in_default.not-Comp)
