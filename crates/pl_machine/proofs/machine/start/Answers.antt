use Rattle.pl_machine.proofs.StartLaws.{grew_well}
use Rattle.pl_machine.proofs.machine.start.Goals as goal

pub begin-requires-clause-well : goal.begin-requires-clause-well
begin-requires-clause-well c = grew_well c.args.compiled.now c.args.path.now c.converted.new.path c.in_ok-called.ensures.grew c.requires.well
