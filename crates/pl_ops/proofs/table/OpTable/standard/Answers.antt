use Rattle.pl_ops.proofs.Standards.{row_value, operator-next, operator-whole}
use Rattle.pl_ops.proofs.table.OpTable.standard.Goals as goal

pub op_of-requires : goal.op_of-requires
op_of-requires c = row_value c.standard_rows-row-items.result.now c.standard_rows-row-items.ensures.rows c.loop-row.row-index c.loop-row-test.true _

pub loop-row-preserved : goal.loop-row-preserved
loop-row-preserved c =
    operator-next c.standard_rows-row-items.result.now c.standard_rows-row-items.ensures.rows c.loop-row.row-index c.loop-row-test.true _
    c.loop-row.table c.declare.new.self c.op_of.result c.op_of.ensures.op c.loop-row.invariant c.in_ok-declare.ensures.ok

pub returns : goal.returns
returns c = operator-whole c.standard_rows-row-items.result.now c.standard_rows-row-items.ensures.rows c.loop-row.row-index c.loop-row-test.false c.loop-row.table c.loop-row.invariant
