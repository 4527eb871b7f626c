use Rattle.std.proofs.Common.{Err, ap}
use Rattle.plmod.proofs.Units.{text_of_unit, text_of_fault}
use Rattle.plmod.proofs.prepare.text_made.Goals as goal

pub returns-in-Ok-clause-gives : goal.returns-in-Ok-clause-gives
returns-in-Ok-clause-gives c = text_of_unit _ _ _ _ _ c.in-Ok.ensures.ok c.unit_made.ensures.gives

pub returns-in-Err-Fault-clause-gives : goal.returns-in-Err-Fault-clause-gives
returns-in-Err-Fault-clause-gives c =
    text_of_fault _ _ _ _ _ _ (c.in-Err-Fault.ensures.fault c.in-Err-Fault.number c.in-Err-Fault.byte (ap Err c.in-Err-Fault.field-0-is)) c.faulty.ensures.made
