use Rattle.std.proofs.Common.{◌≡◌, Some}
use Rattle.pl_terms.specs.declared.cell.Cell.TheVariants.{Comp}
use Rattle.mod_body.proofs.Making.{compound-head}
use Rattle.mod_body.proofs.clause.procedure.Goals as goal

pub returns-in-Some-Comp-clause-procedure : goal.returns-in-Some-Comp-clause-procedure
returns-in-Some-Comp-clause-procedure c f =
    let is : c.peek.result ≡ Some (Comp c.in-Some-Comp.name c.in-Some-Comp.arity) = cc in
    compound-head f c.args.head.now c.peek.result c.in-Some-Comp.name c.in-Some-Comp.arity c.peek.ensures is
