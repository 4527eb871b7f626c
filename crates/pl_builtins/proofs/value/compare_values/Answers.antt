use Rattle.std.proofs.Common.{rules}
use Rattle.std.proofs.lemmas.Int.{to_z-of_z}
use Rattle.std.specs.Int.{w64}
use Rattle.std.specs.Int.RustNames.{FitsSigned}
use Rattle.pl_builtins.proofs.Deeds.{if_ok}
use Rattle.pl_builtins.proofs.Valued.{valued-ok, valued-err, related-ok, related-left, related-right}
use Rattle.pl_builtins.proofs.value.compare_values.Goals as goal

pub returns-in-Ok-evaluate : goal.returns-in-Ok-evaluate
returns-in-Ok-evaluate c =
    let fx : FitsSigned w64 c.in-Ok.x = search rules in
    let fy : FitsSigned w64 c.in-Ok-evaluate.y = search rules in
    related-ok c.args.store.now.state c.args.relation _ _ c.whether.result c.in-Ok.x c.in-Ok-evaluate.y c.holds.result
    (valued-ok c.args.names.now _ c.in-Ok.x c.in-Ok.ensures) (valued-ok c.args.names.now _ c.in-Ok-evaluate.y c.in-Ok-evaluate.ensures)
    (simp to_z-of_z at c.holds.ensures) (c.whether.ensures c.args.store.now.state)

pub returns-in-Err-evaluate : goal.returns-in-Err-evaluate
returns-in-Err-evaluate c =
    if_ok _ _ _ (λ d h. related-right c.args.store.now.state c.args.relation _ _ d c.in-Ok.x c.in-Err-evaluate.fault
    (valued-ok c.args.names.now _ c.in-Ok.x c.in-Ok.ensures) (valued-err c.args.names.now _ c.in-Err-evaluate.fault c.in-Err-evaluate.ensures h.told) h) c.raise.ensures

pub returns-in-Err : goal.returns-in-Err
returns-in-Err c =
    if_ok _ _ _ (λ d h. related-left c.args.store.now.state c.args.relation _ _ d c.in-Err.fault
    (valued-err c.args.names.now _ c.in-Err.fault c.in-Err.ensures h.told) h) c.raise-in-Err.ensures
