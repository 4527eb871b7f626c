use Rattle.std.proofs.Common.{◌≡◌, map, take}
use Rattle.unit_order.specs.Numbering.{number_in, cell_by_name}
use Rattle.unit_order.proofs.renumbering.numbered_term.Given as goal

abbrev pub invariant-loop-cell : goal.invariant-loop-cell
invariant-loop-cell l = l.copy ≡ map (cell_by_name (number_in l.used)) (take l.cell-index l.cells)
