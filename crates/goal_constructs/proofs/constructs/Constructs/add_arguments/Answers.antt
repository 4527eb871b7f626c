use Rattle.std.proofs.Common.{◌≡◌, ◌∙◌, ◌∷◌, ℕ, List, Ok, map, sym, ap, subst, reverse}
use Rattle.pl_terms.specs.Trees.{Tree, Trees}
use Rattle.pl_unify.specs.declared.word.Ref.{Ref}
use Rattle.pl_unify.specs.State.{State, tree_at, Grows}
use Rattle.pl_unify.specs.Making.{AreRefs}
use Rattle.pl_unify.proofs.Loading.{Grows-trans}
use Rattle.goal_model.specs.Bodies.{added}
use Rattle.goal_constructs.specs.Goals.{more_arguments}
use Rattle.goal_constructs.specs.Calling.{Inner, wrapped}
use Rattle.goal_constructs.proofs.ConjunctLaws.{reverse-push}
use Rattle.goal_constructs.proofs.ConversionLaws.{AreRefs-grown, map-grown}
use Rattle.goal_constructs.proofs.CallingLaws.{inner-more, wrapped-error}
use Rattle.goal_constructs.proofs.constructs.Constructs.add_arguments.Goals as goal

pub loop-front-preserved : goal.loop-front-preserved
loop-front-preserved c =
    let s : State = c.args.store.now.state in
    let t : Tree ℕ = tree_at s c.args.term in
    let pushed : reverse c.push.new.list.items ≡ c.in-Some.front ∷ reverse c.loop-front.modules.items = ap reverse c.in_ok-push.ensures.ok ∙ reverse-push c.loop-front.modules.items c.in-Some.front in
    subst (λ ms. Inner c.args.self.now s t ms c.in-Some.next) (sym pushed)
    (inner-more c.args.self.now s t (reverse c.loop-front.modules.items) c.loop-front.inner c.in-Some.front c.in-Some.next c.loop-front.invariant c.in-Some.ensures)

pub wrap-requires-clause-modules : goal.wrap-requires-clause-modules
wrap-requires-clause-modules c = AreRefs-grown c.args.store.now.state c.add_here.new.store.state (reverse c.loop-front.modules.items) c.add_here.ensures.grows c.loop-front.invariant.places

pub returns-in-Goal-clause-grows : goal.returns-in-Goal-clause-grows
returns-in-Goal-clause-grows c = Grows-trans c.args.store.now.state c.add_here.new.store.state c.wrap.new.store.state c.add_here.ensures.grows c.wrap.ensures.grows

pub returns-in-Goal-clause-added : goal.returns-in-Goal-clause-added
returns-in-Goal-clause-added c = λ n are.
    let s : State = c.args.store.now.state in
    let new : State = c.add_here.new.store.state in
    let t : Tree ℕ = tree_at s c.args.term in
    let us : Trees ℕ = more_arguments (tree_at s c.args.goal) in
    let f : ℕ = c.args.self.now.names.colon.0 in
    let ms : List Ref = reverse c.loop-front.modules.items in
    let here = (rw c.in-Goal.is at c.in_ok-made.ensures.added) n are in (
      c.in_ok-whole-in-Goal.ensures.place,
      c.loop-front.invariant.adds n are t us c.args.name.0 c.args.arity
          ∙ (ap (wrapped f (map (tree_at s) ms)) (c.in_default.ensures n are t us c.args.name.0 c.args.arity ∙ here.1)
          ∙ (ap (λ ts. wrapped f ts (Ok (tree_at new c.in-Goal.made))) (sym (map-grown s new ms c.add_here.ensures.grows c.loop-front.invariant.places))
          ∙ c.in_ok-whole-in-Goal.ensures.tree)),
    )

pub returns-clause-added : goal.returns-clause-added
returns-clause-added c = λ n are.
    let s : State = c.args.store.now.state in
    let t : Tree ℕ = tree_at s c.args.term in
    let us : Trees ℕ = more_arguments (tree_at s c.args.goal) in
    let f : ℕ = c.args.self.now.names.colon.0 in
    let ms : List Ref = reverse c.loop-front.modules.items in
    let here = (rw c.in-Ball.is at c.in_ok-made.ensures.added) n are in (
      here.0,
      c.loop-front.invariant.adds n are t us c.args.name.0 c.args.arity
          ∙ (ap (wrapped f (map (tree_at s) ms)) (c.in_default.ensures n are t us c.args.name.0 c.args.arity ∙ here.1)
          ∙ wrapped-error f (map (tree_at s) ms) (tree_at c.add_here.new.store.state c.in-Ball.ball)),
    )
