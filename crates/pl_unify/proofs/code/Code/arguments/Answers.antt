use Rattle.std.proofs.Common.{arith}
use Rattle.pl_unify.proofs.CodeMaking.{no_arguments, arguments_of}
use Rattle.pl_unify.proofs.code.Code.arguments.Goals as goal

pub unreachable-requires : goal.unreachable-requires
unreachable-requires c =
    omega (arith, c.requires.some, no_arguments c.args.self.now.words c.args.self.now.vars c.args.p c.word.result c.word.ensures.code c.requires.place c.word.ensures.word c.in_default.not-Comp)

pub returns-clause-places : goal.returns-clause-places
returns-clause-places c =
    (arguments_of c.args.self.now.words c.args.self.now.vars c.args.p c.in-Comp.field-0 c.in-Comp.field-1 c.in-Comp.first c.in-Comp.field-3 c.word.ensures.code c.requires.place c.in-Comp.ensures.word).fits

pub returns-clause-trees : goal.returns-clause-trees
returns-clause-trees c =
    (arguments_of c.args.self.now.words c.args.self.now.vars c.args.p c.in-Comp.field-0 c.in-Comp.field-1 c.in-Comp.first c.in-Comp.field-3 c.word.ensures.code c.requires.place c.in-Comp.ensures.word).trees
