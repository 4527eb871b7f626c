use Rattle.pl_machine.proofs.FrontLaws.{goal_front, fail_front, cut_front, exit_front, link_none}
use Rattle.pl_machine.proofs.front.of_part.Goals as goal

pub returns-in-Goal-clause-front : goal.returns-in-Goal-clause-front
returns-in-Goal-clause-front c = goal_front c.args.compiled.now c.args.path.now c.requires.linked c.args.frame c.requires.frame c.requires.well c.in-Goal.goal c.in-Goal.is c.requires.some

pub returns-in-Fail-clause-front : goal.returns-in-Fail-clause-front
returns-in-Fail-clause-front c = fail_front c.args.compiled.now c.args.path.now c.requires.linked c.args.frame c.requires.frame c.in-Fail.is c.requires.some

pub returns-in-Cut-clause-front : goal.returns-in-Cut-clause-front
returns-in-Cut-clause-front c = cut_front c.args.compiled.now c.args.path.now c.requires.linked c.args.frame c.requires.frame c.in-Cut.is c.requires.some

pub returns-in-Exit-clause-front : goal.returns-in-Exit-clause-front
returns-in-Exit-clause-front c = exit_front c.args.compiled.now c.args.path.now c.requires.linked c.args.frame c.requires.frame c.in-Exit.is c.requires.some

pub returns-in-Link-clause-none : goal.returns-in-Link-clause-none
returns-in-Link-clause-none c = link_none c.args.compiled.now c.args.path.now c.requires.linked c.args.frame c.requires.frame c.in-Link.is
