use Rattle.std.proofs.Common.{sym, subst}
use Rattle.std.specs.List.{AllByRecursion}
use Rattle.unit_model.specs.Validity.{FitsOperator}
use Rattle.unit_model.specs.Views.{op_view}
use Rattle.unit_format.specs.Spelling.{IsPlace}
use Rattle.unit_format.proofs.PutLaws.{unview, put_need_is}
use Rattle.unit_format.proofs.writing.put_need.Goals as goal

pub put_ops-requires : goal.put_ops-requires
put_ops-requires c = subst (AllByRecursion (λ x. FitsOperator IsPlace (op_view x))) (sym c.as_slice-ops.ensures) (unview (FitsOperator IsPlace) op_view c.args.need.now.ops c.requires.operators)

pub returns : goal.returns
returns c = put_need_is c.args.need.now c.as_slice-ops.result.now c.args.out.now c.put_place.new.out c.put_u32.new.out c.put_ops.new.out c.as_slice-ops.ensures c.in_ok-put_place.ensures c.in_ok-put_u32.ensures c.in_ok-put_ops.ensures
