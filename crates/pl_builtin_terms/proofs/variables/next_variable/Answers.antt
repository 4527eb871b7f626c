use Rattle.std.proofs.Common.{◌≡◌, ◌∙◌, ◌∷◌, ap, sym, subst, reverse, arith}
use Rattle.pl_unify.specs.State.{State}
use Rattle.pl_unify.specs.Making.{AreRefs}
use Rattle.pl_builtin_terms.specs.Walk.{IsVisit, Entered, occurrences_at, nodes_at}
use Rattle.pl_builtin_terms.proofs.Walks.{reverse-push}
use Rattle.pl_builtin_terms.proofs.variables.next_variable.Goals as goal
use Rattle.pl_builtin_terms.proofs.variables.next_variable.Goals.{In_default-2}

popped : (c : In_default-2) → reverse c.places.work.items ≡ c.in-Some.place ∷ reverse c.pop.new.self.items
popped c = ap reverse c.in-Some.ensures.items ∙ reverse-push c.pop.new.self.items c.in-Some.place

entered : (c : In_default-2) → Entered c.args.store.now.state c.in-Some.place (reverse c.pop.new.self.items) (reverse c.visit.new.work.items)
entered c = subst (λ o. IsVisit c.args.store.now.state c.in-Some.place (reverse c.pop.new.self.items) (reverse c.visit.new.work.items) o) c.in_default-2.is c.in_ok-number.ensures

pub places-preserved : goal.places-preserved
places-preserved c =
    let s : State = c.args.store.now.state in
    let there : AreRefs s (c.in-Some.place ∷ reverse c.pop.new.self.items) = subst (AreRefs s) (popped c) c.places.invariant.places in
    record {
      places = (entered c).places there.1;
      occurrences = (entered c).occurrences ∙ (ap (occurrences_at s) (sym (popped c)) ∙ c.places.invariant.occurrences);
      nodes = omega (arith, (entered c).smaller, ap (nodes_at s) (popped c), c.places.invariant.nodes);
    }

pub places-smaller : goal.places-smaller
places-smaller c = omega (arith, (entered c).smaller, ap (nodes_at c.args.store.now.state) (popped c))
