use Rattle.std.proofs.Common.{◌∙◌, ap, sym, subst}
use Rattle.pl_unify.specs.State.{tree_at}
use Rattle.builtin_model.specs.Deeds.{whether}
use Rattle.pl_builtin_ends.specs.Meets.{Meets}
use Rattle.pl_builtins.specs.Views.{passes_view}
use Rattle.pl_builtins.proofs.Deeds.{passes-root}
use Rattle.pl_builtins.proofs.type_test.test_type.Goals as goal

pub returns : goal.returns
returns c =
    let s = c.args.store.now.state in
    subst (λ b. Meets s s (whether b) c.whether.result) (c.passes.ensures ∙ ap (passes_view c.args.test) c.view.ensures ∙ sym (passes-root c.args.test (tree_at s c.args.at))) (c.whether.ensures s)
