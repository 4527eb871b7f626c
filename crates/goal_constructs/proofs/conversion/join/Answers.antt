use Rattle.std.proofs.Common.{◌≡◌, ◌∙◌, ◌∷◌, List, sym, ap, subst, reverse}
use Rattle.pl_unify.specs.declared.word.Ref.{Ref}
use Rattle.pl_unify.specs.State.{State}
use Rattle.goal_constructs.specs.declared.conversion.Task.{Task}
use Rattle.goal_constructs.specs.declared.conversion.Task.TheVariants.{Join}
use Rattle.goal_constructs.specs.Conversion.{Goes, Sound}
use Rattle.goal_constructs.proofs.ConjunctLaws.{reverse-push}
use Rattle.goal_constructs.proofs.ConversionLaws.{step-join}
use Rattle.goal_constructs.proofs.conversion.join.Goals as goal

pub returns-clause-step : goal.returns-clause-step
returns-clause-step c = λ k.
    let s : State = c.args.store.now.state in
    let new : State = c.joined.new.store.state in
    let ts : List Task = reverse c.args.tasks.now.items in
    let task : Task = Join c.args.name c.args.at in
    let rest : List Ref = reverse c.pop-2.new.self.items in
    let made : Ref = c.in_ok-made.made in
    let popped : reverse c.args.done.now.items ≡ c.in-Some.right ∷ c.in-Some-pop.left ∷ rest =
    ap reverse c.in-Some.ensures.items ∙ (reverse-push c.pop.new.self.items c.in-Some.right ∙ ap (λ xs. c.in-Some.right ∷ xs) (ap reverse c.in-Some-pop.ensures.items ∙ reverse-push c.pop-2.new.self.items c.in-Some-pop.left)) in
    let pushed : reverse c.push.new.list.items ≡ made ∷ rest = ap reverse c.in_ok-push.ensures.ok ∙ reverse-push c.pop-2.new.self.items made in
    subst (Goes k s new (task ∷ ts) (reverse c.args.done.now.items) ts) (sym pushed)
    (subst (λ ds. Goes k s new (task ∷ ts) ds ts (made ∷ rest)) (sym popped)
    (step-join k s new c.args.name c.args.at c.in-Some-pop.left c.in-Some.right made ts rest (subst (Sound s (task ∷ ts)) popped c.requires) c.in_ok-made.ensures.grows c.in_ok-made.ensures.place c.in_ok-made.ensures.tree))
