use Rattle.std.proofs.Common.{◌≡◌, map, take}
use Rattle.pl_atoms.specs.CaseTable.{cases_of}
use Rattle.pl_ops.specs.Tables.{operator}
use Rattle.pl_ops.specs.StandardRows.{declared_case}
use Rattle.pl_ops.proofs.table.OpTable.standard.Given as goal

abbrev pub invariant-loop-row : goal.invariant-loop-row
invariant-loop-row l = operator l.table ≡ operator (map declared_case (take l.row-index (cases_of l.row-items)))
