use Rattle.std.proofs.Common.{◌≡◌, take}
use Rattle.std.specs.List.{flat_map}
use Rattle.unit_format.specs.Uses.{cell_names}
use Rattle.unit_order.specs.Numbering.{all_noted}
use Rattle.unit_order.proofs.uses.note_cells.Given as goal

abbrev pub invariant-loop-cell : goal.invariant-loop-cell
invariant-loop-cell l = l.used ≡ all_noted l.initial.used (flat_map cell_names (take l.cell-index l.cells))
