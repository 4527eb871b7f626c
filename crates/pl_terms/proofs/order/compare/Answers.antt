use Rattle.std.proofs.Common.{arith, length, sym, ◌∙◌}
use Rattle.pl_terms.specs.CellOrder.{cell_cmp, name_cmp}
use Rattle.pl_terms.specs.declared.cell.Cell.TheVariants.{Var}
use Rattle.pl_terms.proofs.CellOrder.{cells_cmp-standard, NameBelow-at, turn-decided, turn-undecided, turn-ended}
use Rattle.pl_terms.proofs.order.compare.Goals as goal

pub compare_cells-found-requires-clause-left_named : goal.compare_cells-found-requires-clause-left_named
compare_cells-found-requires-clause-left_named c =
    NameBelow-at (length c.args.names.now) c.cells-left.result.now c.args.first.now c.loop-at.at (Var 0) c.cells-left.ensures.same c.requires.first_named (omega arith)

pub compare_cells-found-requires-clause-right_named : goal.compare_cells-found-requires-clause-right_named
compare_cells-found-requires-clause-right_named c =
    NameBelow-at (length c.args.names.now) c.cells-right.result.now c.args.second.now c.loop-at.at (Var 0) c.cells-right.ensures.same c.requires.second_named (omega arith)

pub returns-then-is_ne : goal.returns-then-is_ne
returns-then-is_ne c =
    turn-decided (cell_cmp (name_cmp c.args.names.now)) c.cells-left.result.now c.cells-right.result.now c.loop-at.at _ c.loop-at.invariant c.compare_cells-found.result (Var 0) (omega arith) (omega arith) c.compare_cells-found.ensures (sym c.is_ne.ensures ∙ c.if-is_ne.true)
    ∙ cells_cmp-standard c.args.names.now _ _ c.args.first.now c.args.second.now c.cells-left.ensures.same c.cells-right.ensures.same

pub loop-at-preserved : goal.loop-at-preserved
loop-at-preserved c =
    turn-undecided (cell_cmp (name_cmp c.args.names.now)) c.cells-left.result.now c.cells-right.result.now c.loop-at.at _ c.loop-at.invariant c.compare_cells-found.result (Var 0) (omega arith) (omega arith) c.compare_cells-found.ensures (sym c.is_ne.ensures ∙ c.if-is_ne.false)

pub returns : goal.returns
returns c =
    turn-ended (cell_cmp (name_cmp c.args.names.now)) c.cells-left.result.now c.cells-right.result.now c.loop-at.at _ c.loop-at.invariant c.cmp.result (omega arith) c.cmp.ensures
    ∙ cells_cmp-standard c.args.names.now _ _ c.args.first.now c.args.second.now c.cells-left.ensures.same c.cells-right.ensures.same
