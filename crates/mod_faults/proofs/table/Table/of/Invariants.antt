use Rattle.std.proofs.Common.{take}
use Rattle.mod_faults.specs.Tables.{AreTaken}
use Rattle.mod_faults.proofs.Tables.{tables}
use Rattle.mod_faults.proofs.table.Table.of.Given as goal

abbrev pub invariant-loop-unit : goal.invariant-loop-unit
invariant-loop-unit l = AreTaken (tables (take l.unit-index l.units)) l.names l.remaps.items
