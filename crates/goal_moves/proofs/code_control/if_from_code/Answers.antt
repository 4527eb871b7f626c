use Rattle.std.proofs.Common.{subst}
use Rattle.goal_moves.specs.Branching.{AtIf}
use Rattle.goal_moves.proofs.code_control.if_from_code.Goals as goal

pub if_then_else-requires-clause-code : goal.if_then_else-requires-clause-code
if_then_else-requires-clause-code c = subst (λ o. AtIf c.args.compiled.now c.args.path.now c.args.condition o c.args.next c.args.setting) c.in-Some.is c.requires.code

pub if_then-requires-clause-code : goal.if_then-requires-clause-code
if_then-requires-clause-code c = subst (λ o. AtIf c.args.compiled.now c.args.path.now c.args.condition o c.args.next c.args.setting) c.in-None.is c.requires.code
