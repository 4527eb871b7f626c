use Rattle.std.proofs.Common.{ap, sym, rules}
use Rattle.std.proofs.lemmas.Int.{to_z-of_z}
use Rattle.std.specs.Int.{w64}
use Rattle.std.specs.Int.RustNames.{FitsSigned}
use Rattle.pl_terms.specs.Trees.{int}
use Rattle.pl_unify.specs.State.{tree_at}
use Rattle.builtin_model.specs.Deeds.{assigned, unify}
use Rattle.pl_builtins.proofs.Deeds.{if_ok, deed_if}
use Rattle.pl_builtins.proofs.Valued.{valued-ok, valued-err, assigned-err}
use Rattle.pl_builtins.proofs.value.is.Goals as goal

pub returns-in-Ok-clause-done : goal.returns-in-Ok-clause-done
returns-in-Ok-clause-done c =
    let s = c.args.store.now.state in
    let t = tree_at s c.args.left in
    let fits : FitsSigned w64 c.in-Ok.value = search rules in
    deed_if s c.unify_int.new.store.state c.unify_int.result (unify t (int c.in-Ok.value)) _
    (sym (ap (assigned t) (valued-ok c.args.names.now (tree_at s c.args.right) c.in-Ok.value c.in-Ok.ensures))) (simp to_z-of_z at c.unify_int.ensures.done)

pub returns-in-Err-clause-done : goal.returns-in-Err-clause-done
returns-in-Err-clause-done c =
    let s = c.args.store.now.state in
    if_ok c.raise.result _ _ (λ d h. assigned-err s (tree_at s c.args.left) _ c.in-Err.fault d (valued-err c.args.names.now (tree_at s c.args.right) c.in-Err.fault c.in-Err.ensures h.told) h) c.raise.ensures
