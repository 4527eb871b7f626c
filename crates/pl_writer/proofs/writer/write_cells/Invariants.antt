use Rattle.std.proofs.Common.{◌+◌, ◌-◌, ◌*◌, ◌++◌, length}
use Rattle.pl_ops.specs.Tables.{operator}
use Rattle.pl_writer.specs.Edges.{spaced_by, no_edge, Begins}
use Rattle.pl_writer.specs.Todos.{all_costs, all_needs}
use Rattle.pl_writer.proofs.WriterLoop.{Writes, whole_of}
use Rattle.pl_writer.proofs.writer.write_cells.Given as goal

abbrev pub invariant-write : goal.invariant-write
invariant-write l = record {
  writes : Writes (operator l.table) l.names l.quote (l.fn.out ++ spaced_by no_edge (whole_of (operator l.table) l.names l.quote l.max l.cells)) l.cells l.at l.out l.edge l.stack.items;
  begins : Begins l.fn.out l.out;
}

abbrev pub decreases-write : goal.decreases-write
decreases-write l = 10 * (length l.cells - l.at) + all_costs l.stack.items - 3 * all_needs l.stack.items
