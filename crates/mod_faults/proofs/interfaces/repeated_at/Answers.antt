use Rattle.mod_faults.proofs.Repeating.{noted-section}
use Rattle.mod_faults.proofs.Lookups.{on_ok2}
use Rattle.mod_faults.proofs.interfaces.repeated_at.Goals as goal

pub returns-in-Interface : goal.returns-in-Interface
returns-in-Interface c =
    on_ok2 c.note.result
    (noted-section c.args.unit c.args.names.now c.args.section.now c.text.result.now c.args.seen.now c.note.new.seen c.args.out.now.items c.note.new.out.items c.in-Interface.is c.text.ensures)
    c.note.ensures.seen c.note.ensures.faults
