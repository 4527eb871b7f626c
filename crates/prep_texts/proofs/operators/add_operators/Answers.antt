use Rattle.prep_texts.proofs.OperatorLaws.{adding-more, adding-done}
use Rattle.prep_texts.proofs.operators.add_operators.Goals as goal

pub adding-preserved : goal.adding-preserved
adding-preserved c =
    adding-more c.args.table.now c.adding.table c.args.operators.now c.adding.declared-index c.declared-item.result c.adding-test.true c.declared-item.is c.adding.invariant
    c.add_operator.new.table c.in-Ok.ensures.cause c.in-Ok.ensures.ok

pub returns-clause-table : goal.returns-clause-table
returns-clause-table c = (adding-done c.args.table.now c.adding.table c.args.operators.now c.adding.declared-index c.adding-test.false c.adding.invariant).1

pub returns-clause-accepted : goal.returns-clause-accepted
returns-clause-accepted c = (adding-done c.args.table.now c.adding.table c.args.operators.now c.adding.declared-index c.adding-test.false c.adding.invariant).0
