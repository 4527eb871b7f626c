use Rattle.std.proofs.Common.{◌≡◌, take}
use Rattle.pl_reader.proofs.reading.term_of.Given as goal

abbrev pub invariant-loop-cell : goal.invariant-loop-cell
invariant-loop-cell l = l.buf ≡ take l.cell-index l.prefix
