use Rattle.std.proofs.Common.{◌∙◌, ap, sym, Some}
use Rattle.pl_arith.proofs.Evaluables.{inside, row_value_below, operation_found, no_operation_found}
use Rattle.pl_arith.proofs.evaluable.find_operation.Goals as goal

pub bounds-rows-likely_place : goal.bounds-rows-likely_place
bounds-rows-likely_place c = inside c.rows-rows.result.now c.likely_place.result c.rows-rows.ensures c.likely_place.ensures.below

pub operation_at-requires : goal.operation_at-requires
operation_at-requires c = row_value_below c.rows-rows.result.now c.rows-rows.ensures c.likely_place.result c.likely_place.ensures.below _

pub returns-then-is_row : goal.returns-then-is_row
returns-then-is_row c =
    ap Some c.operation_at.ensures
    ∙ operation_found c.rows-rows.result.now c.rows-rows.ensures c.likely_place.result c.likely_place.ensures.below _ c.args.name.now c.args.arity
    (sym c.is_row.ensures ∙ c.if-is_row.true)

pub returns-else-is_row : goal.returns-else-is_row
returns-else-is_row c =
    no_operation_found c.rows-rows.result.now c.rows-rows.ensures c.likely_place.result c.likely_place.ensures.below _ c.args.name.now c.args.arity
    c.likely_place.ensures.place (sym c.is_row.ensures ∙ c.if-is_row.false)
