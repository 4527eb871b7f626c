use Rattle.std.proofs.Common.{◌≡◌, ◌∙◌, [], ◌∷◌, ◌++◌, ap, subst, reverse}
use Rattle.builtin_model.specs.Deeds.{whether}
use Rattle.pl_unify.specs.State.{State}
use Rattle.pl_builtin_ends.specs.Meets.{Meets}
use Rattle.pl_builtin_terms.proofs.Finding.{ground-found}
use Rattle.pl_builtin_terms.proofs.variables.ground.Goals as goal

pub returns : goal.returns
returns c =
    let s : State = c.args.store.now.state in
    let work : reverse c.push.new.self.items ≡ c.args.term ∷ [] = ap reverse (c.in_ok-push.ensures.items ∙ ap (λ xs. xs ++ c.args.term ∷ []) c.new-work.ensures.items) in
    let found = ground-found s c.args.term (reverse c.push.new.self.items) _ c.in_ok-found.found c.is_none.result work c.in_ok-found.ensures c.is_none.ensures in
    subst (λ b. Meets s s (whether b) c.whether.result) found (c.whether.ensures s)
