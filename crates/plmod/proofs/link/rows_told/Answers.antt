use Rattle.plmod.proofs.Tellings.{of_fault}
use Rattle.plmod.proofs.link.rows_told.Goals as goal

pub returns-in-Some-clause-gives : goal.returns-in-Some-clause-gives
returns-in-Some-clause-gives c = of_fault _ c.args.names.now c.in-Some.fault _ c.faulty_link.result (rw c.in-Some.is at c.in_ok-fault.ensures) c.faulty_link.ensures.gives
