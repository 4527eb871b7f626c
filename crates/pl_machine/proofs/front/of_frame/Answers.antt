use Rattle.pl_machine.proofs.FrontLaws.{over_none}
use Rattle.pl_machine.proofs.front.of_frame.Goals as goal

pub returns-then-path-eq0-clause-none : goal.returns-then-path-eq0-clause-none
returns-then-path-eq0-clause-none c = over_none c.args.compiled.now c.args.path.now c.requires.linked c.args.frame c.requires.frame c.in_default.not-Body c.if-path-eq0.true
