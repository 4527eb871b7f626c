use Rattle.std.proofs.Common.{◌≡◌, ◌∙◌, ◌++◌, ◌∷◌, [], length, subst, take, rules}
use Rattle.std.proofs.lemmas.List.{length-set}
use Rattle.pl_unify.specs.State.{IsUnbindable, links_of}
use Rattle.pl_unify.proofs.Bound.{UnbindStep, unbind_step, unbind_links}
use Rattle.pl_unify.proofs.store.unbind.Goals as goal

pub loop-trail-preserved-in-Some : goal.loop-trail-preserved-in-Some
loop-trail-preserved-in-Some c =
    let split : c.loop-trail.trail.items ≡ c.pop.new.self.items ++ c.in-Some.n ∷ [] = c.in-Some.ensures.items in
    let step : UnbindStep c.loop-trail.vars.items c.pop.new.self.items c.in-Some.n =
    unbind_step c.loop-trail.vars.items c.pop.new.self.items c.in-Some.n (subst (IsUnbindable c.loop-trail.vars.items) split c.loop-trail.invariant.order) in
    record {
      order = step.unbindable;
      links = step.links ∙ unbind_links c.loop-trail.vars.items c.pop.new.self.items c.in-Some.n (links_of c.args.vars.now.items c.args.trail.now.items)
          (subst (λ t. links_of c.loop-trail.vars.items t ≡ take (length t) (links_of c.args.vars.now.items c.args.trail.now.items)) split c.loop-trail.invariant.links);
      same = length-set _ _ _ ∙ c.loop-trail.invariant.same;
      some = search rules;
      capacity = c.loop-trail.invariant.capacity;
      trail_capacity = c.pop.ensures.capacity ∙ c.loop-trail.invariant.trail_capacity;
    }
