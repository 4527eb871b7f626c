use Rattle.pl_ops.specs.Tables.{operator}
use Rattle.pl_reader.proofs.RunSteps.{Going}
use Rattle.pl_reader.proofs.reading.read_cells.Given as goal

abbrev pub invariant-reading : goal.invariant-reading
invariant-reading l = Going l.tokens (operator l.table) l.fn.names l.grammar l.at l.state l.names l.variables l.waiting.items l.contexts.items l.out.items
