use Rattle.std.proofs.Common.{◌≡◌, ◌∙◌, ◌∷◌, List, Some, sym, ap, subst, reverse}
use Rattle.pl_terms.specs.Trees.{comp, cons, nil}
use Rattle.pl_unify.specs.declared.word.Ref.{Ref}
use Rattle.pl_unify.specs.State.{State, tree_at}
use Rattle.pl_unify.proofs.Loading.{Grows-refl}
use Rattle.goal_constructs.specs.declared.conversion.Task.{Task}
use Rattle.goal_constructs.specs.declared.conversion.Task.TheVariants.{Convert, Join}
use Rattle.goal_constructs.specs.Conversion.{Goes}
use Rattle.goal_constructs.proofs.ConjunctLaws.{reverse-push}
use Rattle.goal_constructs.proofs.ConversionLaws.{step-made, step-control}
use Rattle.goal_constructs.proofs.constructs.Constructs.convert.Goals as goal

pub returns-in_ok-push-in-Variable-clause-step : goal.returns-in_ok-push-in-Variable-clause-step
returns-in_ok-push-in-Variable-clause-step c =
    let s : State = c.args.store.now.state in
    let new : State = c.compound.new.self.state in
    let ts : List Task = reverse c.args.tasks.now.items in
    let done : List Ref = reverse c.args.done.now.items in
    let made : Ref = c.in_ok-made-in-Variable.made in
    let pushed : made ∷ done ≡ reverse c.push.new.list.items = sym (ap reverse c.in_ok-push-in-Variable.ensures.ok ∙ reverse-push c.args.done.now.items made) in
    subst (Goes c.args.self.now s new (Convert c.args.at ∷ ts) done ts) pushed
    (step-made c.args.self.now s new c.args.at made ts done c.requires c.in_ok-made-in-Variable.ensures.grows c.in_ok-made-in-Variable.ensures.place
    (λ n are. c.in-Variable.ensures n are ∙ (ap (λ g. Some (comp g.call.0 (cons (tree_at s c.args.at) nil))) (sym c.names.ensures) ∙ ap Some (sym c.in_ok-made-in-Variable.ensures.tree))))

pub returns-in_ok-push-in-Control-3-clause-step : goal.returns-in_ok-push-in-Control-3-clause-step
returns-in_ok-push-in-Control-3-clause-step c =
    let s : State = c.args.store.now.state in
    let ts : List Task = reverse c.args.tasks.now.items in
    let done : List Ref = reverse c.args.done.now.items in
    let l : Task = Convert c.in-Control.left in
    let r : Task = Convert c.in-Control.right in
    let j : Task = Join c.in-Control.name c.args.at in
    let first : reverse c.push-in-Control.new.list.items ≡ j ∷ ts = ap reverse c.in_ok-push-in-Control.ensures.ok ∙ reverse-push c.args.tasks.now.items j in
    let second : reverse c.push-in-Control-2.new.list.items ≡ r ∷ j ∷ ts = ap reverse c.in_ok-push-in-Control-2.ensures.ok ∙ (reverse-push c.push-in-Control.new.list.items r ∙ ap (λ xs. r ∷ xs) first) in
    let third : reverse c.push-in-Control-3.new.list.items ≡ l ∷ r ∷ j ∷ ts = ap reverse c.in_ok-push-in-Control-3.ensures.ok ∙ (reverse-push c.push-in-Control-2.new.list.items l ∙ ap (λ xs. l ∷ xs) second) in
    subst (λ us. Goes c.args.self.now s s (Convert c.args.at ∷ ts) done us done) (sym third)
    (step-control c.args.self.now s c.args.at c.in-Control.left c.in-Control.right c.in-Control.name ts done c.requires c.in-Control.ensures)

pub returns-in_ok-push-in-Other-clause-step : goal.returns-in_ok-push-in-Other-clause-step
returns-in_ok-push-in-Other-clause-step c =
    let s : State = c.args.store.now.state in
    let ts : List Task = reverse c.args.tasks.now.items in
    let done : List Ref = reverse c.args.done.now.items in
    let pushed : c.args.at ∷ done ≡ reverse c.push-in-Other.new.list.items = sym (ap reverse c.in_ok-push-in-Other.ensures.ok ∙ reverse-push c.args.done.now.items c.args.at) in
    subst (Goes c.args.self.now s s (Convert c.args.at ∷ ts) done ts) pushed
    (step-made c.args.self.now s s c.args.at c.args.at ts done c.requires (Grows-refl s) c.requires.tasks.0 c.in-Other.ensures)
