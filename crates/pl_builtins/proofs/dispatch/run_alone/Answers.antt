use Rattle.std.proofs.Common.{[], sym, subst}
use Rattle.builtin_model.specs.Deeds.{deed}
use Rattle.pl_builtin_ends.specs.Meets.{Meets}
use Rattle.pl_builtins.proofs.dispatch.run_alone.Goals as goal

pub returns-in-True-clause-done : goal.returns-in-True-clause-done
returns-in-True-clause-done c = λ n s caller next.
    subst (λ row. Meets s s (deed n row [] caller next) c.whether.result) (sym c.in-True.is) (c.whether.ensures s)
