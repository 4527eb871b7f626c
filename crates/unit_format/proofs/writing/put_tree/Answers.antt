use Rattle.unit_format.proofs.TermLaws.{fit_cells, tree_bytes-cells}
use Rattle.unit_format.proofs.writing.put_tree.Goals as goal

pub put_cells-requires : goal.put_cells-requires
put_cells-requires c = rw c.cells.ensures.same (fit_cells c.args.term.now c.requires)

pub returns : goal.returns
returns c = rw (tree_bytes-cells c.args.term.now, ← c.cells.ensures.same) c.put_cells.ensures
