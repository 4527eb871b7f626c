use Rattle.std.proofs.Common.{◌≡◌, ◌∙◌, ◌∷◌, ℕ, List, Ok, map, ap, subst, reverse}
use Rattle.pl_terms.specs.Trees.{comp, cons, nil}
use Rattle.pl_unify.specs.declared.word.Ref.{Ref}
use Rattle.pl_unify.specs.State.{State, tree_at}
use Rattle.pl_unify.specs.Making.{AreRefs}
use Rattle.pl_unify.proofs.Loading.{Grows-trans}
use Rattle.goal_constructs.specs.Calling.{wrapped}
use Rattle.goal_constructs.proofs.ConjunctLaws.{reverse-push}
use Rattle.goal_constructs.proofs.ConversionLaws.{AreRefs-grown}
use Rattle.goal_constructs.proofs.CallingLaws.{wrapped-more}
use Rattle.goal_constructs.proofs.constructs.Constructs.wrap.Goals as goal

pub loop-front-preserved : goal.loop-front-preserved
loop-front-preserved c =
    let s : State = c.loop-front.store.state in
    let new : State = c.compound.new.self.state in
    let f : ℕ = c.args.self.now.names.colon.0 in
    let rest : List Ref = reverse c.pop.new.self.items in
    let popped : reverse c.loop-front.modules.items ≡ c.in-Some.front ∷ rest = ap reverse c.in-Some.ensures.items ∙ reverse-push c.pop.new.self.items c.in-Some.front in
    let refs : AreRefs s (c.in-Some.front ∷ rest) = subst (AreRefs s) popped c.loop-front.invariant.modules in
    record {
      grows = Grows-trans c.args.store.now.state s new c.loop-front.invariant.grows c.compound.ensures.grows;
      next = c.compound.ensures.next ∙ c.loop-front.invariant.next;
      place = c.in_ok-made.ensures.place;
      modules = AreRefs-grown s new rest c.compound.ensures.grows refs.1;
      same = c.loop-front.invariant.same ∙ (ap (λ rs. wrapped f (map (tree_at s) rs) (Ok (tree_at s c.loop-front.made))) popped
          ∙ wrapped-more f s new c.in-Some.front c.loop-front.made c.in_ok-made.made rest c.compound.ensures.grows refs.1
          (c.in_ok-made.ensures.tree ∙ ap (λ g. comp g.colon.0 (cons (tree_at s c.in-Some.front) (cons (tree_at s c.loop-front.made) nil))) c.names.ensures));
    }
