use Rattle.std.proofs.Common.{get_or, arith}
use Rattle.pl_terms.specs.declared.cell.Cell.TheVariants.{Var}
use Rattle.unit_format.proofs.BodyLaws.{goes_on, begins, fits, get_or-again}
use Rattle.unit_format.proofs.clauses.is_converted.Goals as goal

pub loop-cell-init : goal.loop-cell-init
loop-cell-init c = begins c.args.names.now c.args.body.now c.cells-cells.result.now c.cells-cells.ensures.same c.cells-cells.ensures.whole

pub past_cell-requires : goal.past_cell-requires
past_cell-requires c =
    omega (arith, fits c.args.names.now c.cells-cells.result.now c.loop-cell.cell-index c.loop-cell.passed (get_or c.cells-cells.result.now c.loop-cell.cell-index (Var 0)) _ c.loop-cell-test.true (get_or-again c.cells-cells.result.now c.loop-cell.cell-index (Var 0)) c.loop-cell.invariant)

pub loop-cell-preserved : goal.loop-cell-preserved
loop-cell-preserved c =
    goes_on c.args.names.now c.cells-cells.result.now c.loop-cell.cell-index c.loop-cell.passed c.in-Some.after (get_or c.cells-cells.result.now c.loop-cell.cell-index (Var 0)) _ c.loop-cell-test.true (get_or-again c.cells-cells.result.now c.loop-cell.cell-index (Var 0)) c.in-Some.ensures.value c.loop-cell.invariant
