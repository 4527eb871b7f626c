use Rattle.std.proofs.Common.{◌≡◌, map, take, slice_index}
use Rattle.mod_linker.specs.Cells.{mapped_cell}
use Rattle.mod_linker.proofs.terms.mapped.Given as goal

abbrev pub invariant-loop-cell : goal.invariant-loop-cell
invariant-loop-cell l = l.copy ≡ map (mapped_cell (slice_index l.remap)) (take l.cell-index l.cells)
