use Rattle.std.proofs.Common.{◌≡◌, map, subst}
use Rattle.std.specs.Prelude.{is_some, IfOk}
use Rattle.pl_ops.specs.Tables.{Operators, infix_class}
use Rattle.unit_format.proofs.operators.standard_infixes.Goals as goal

pub returns : goal.returns
returns c =
    let P : Operators → Type 0 = λ look. IfOk c.infixes_of.result (λ v. v.items ≡ map (λ s. is_some (look infix_class s)) c.args.names.now) in
    subst P c.in_ok-table.ensures c.infixes_of.ensures
