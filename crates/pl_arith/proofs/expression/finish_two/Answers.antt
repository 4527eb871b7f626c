use Rattle.std.proofs.Common.{◌∙◌, sym, rules}
use Rattle.std.specs.Int.{w64}
use Rattle.std.specs.Int.RustNames.{FitsSigned}
use Rattle.std.proofs.lemmas.Int.{to_z-of_z}
use Rattle.pl_arith.proofs.Tasks.{done_pair, done_fault}
use Rattle.pl_arith.proofs.expression.finish_two.Goals as goal

pub returns-in_ok-push-in-Ok-clause-ok : goal.returns-in_ok-push-in-Ok-clause-ok
returns-in_ok-push-in-Ok-clause-ok c =
    let fx : FitsSigned w64 c.in-Some-pop.x = search rules in
    let fy : FitsSigned w64 c.in-Some.y = search rules in
    let fz : FitsSigned w64 c.in-Ok.z = search rules in
    done_pair _ _ _ _ c.in-Some-pop.x c.in-Some.y c.in-Ok.z c.args.op c.in-Some.ensures.items c.in-Some-pop.ensures.items (sym c.in-Ok.is ∙ (simp to_z-of_z at c.apply_two.ensures)) (simp to_z-of_z at c.in_ok-push-in-Ok.ensures.ok)

pub returns-in-Err-clause-err : goal.returns-in-Err-clause-err
returns-in-Err-clause-err c h =
    let fx : FitsSigned w64 c.in-Some-pop.x = search rules in
    let fy : FitsSigned w64 c.in-Some.y = search rules in
    done_fault _ _ _ c.in-Some-pop.x c.in-Some.y c.args.op c.in-Err.e c.in-Some.ensures.items c.in-Some-pop.ensures.items (sym c.in-Err.is ∙ (simp to_z-of_z at c.apply_two.ensures))
