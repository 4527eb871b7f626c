use Rattle.std.proofs.Common.{ap, length}
use Rattle.plmod.proofs.Units.{short_made}
use Rattle.plmod.proofs.prepare.unit_made.Goals as goal

pub returns-in_ok-prepared_line-in-Ok-clause-gives : goal.returns-in_ok-prepared_line-in-Ok-clause-gives
returns-in_ok-prepared_line-in-Ok-clause-gives c =
    short_made c.args.name.now c.args.len c.args.unit.now c.in-Ok.bytes c.in_ok-prepared_line-in-Ok.field-0 _ _ c.in-Ok.ensures.encoding c.in-Ok.ensures.within
    c.in_ok-prepared_line-in-Ok.ensures (ap length c.as_slice-sections.ensures) (rw c.as_slice-sections.ensures at c.in_ok-count_clauses-in-Ok.ensures)
