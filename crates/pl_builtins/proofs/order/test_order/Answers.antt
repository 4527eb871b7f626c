use Rattle.std.proofs.Common.{◌∙◌, ap, subst}
use Rattle.builtin_model.specs.Deeds.{order_holds, whether}
use Rattle.pl_builtin_ends.specs.Meets.{Meets}
use Rattle.pl_builtins.proofs.order.test_order.Goals as goal

pub returns : goal.returns
returns c =
    let s = c.args.store.now.state in
    subst (λ b. Meets s s (whether b) c.whether.result) (c.order_holds.ensures ∙ ap (order_holds c.args.test) c.in_ok-found.ensures) (c.whether.ensures s)
