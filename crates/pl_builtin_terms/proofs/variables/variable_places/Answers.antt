use Rattle.std.proofs.Common.{◌≡◌, ◌∙◌, [], ◌∷◌, ◌++◌, ap, sym, subst, reverse, map, nat_eq}
use Rattle.std.proofs.lemmas.List.{append-nil}
use Rattle.indexmap.specs.IndexSet.{insert_all}
use Rattle.pl_terms.specs.Trees.{var}
use Rattle.pl_terms.specs.Occurrence.{occurrences}
use Rattle.pl_unify.specs.State.{State, tree_at}
use Rattle.pl_unify.specs.Making.{AreRefs}
use Rattle.pl_builtin_terms.specs.Walk.{IsNext, Met, occurrences_at}
use Rattle.pl_builtin_terms.proofs.Walks.{AreRefs-push}
use Rattle.pl_builtin_terms.proofs.Finding.{added-keys, met-trees, met-whole, insert_all-variables}
use Rattle.pl_builtin_terms.proofs.variables.variable_places.Goals as goal

pub variables-init : goal.variables-init
variables-init c =
    let s : State = c.args.store.now.state in
    let work : reverse c.push.new.self.items ≡ c.args.term ∷ [] = ap reverse (c.in_ok-push.ensures.items ∙ ap (λ xs. xs ++ c.args.term ∷ []) c.new-work.ensures.items) in
    let keys : c.new-seen.result.keys ≡ [] = c.new-seen.ensures.empty in
    record {
      rest = subst (AreRefs s) (sym work) (c.requires, tt);
      places = subst (AreRefs s) (sym c.new-places.ensures.items) tt;
      trees = ap (map (tree_at s)) c.new-places.ensures.items ∙ ap (map var) (sym keys);
      whole = ap (λ ks. insert_all nat_eq ks (occurrences_at s (reverse c.push.new.self.items))) keys
          ∙ (ap (λ rs. insert_all nat_eq [] (occurrences_at s rs)) work
          ∙ (ap (insert_all nat_eq []) (append-nil (occurrences (tree_at s c.args.term))) ∙ insert_all-variables (tree_at s c.args.term)));
    }

pub variables-preserved-in-Continue-branch-5 : goal.variables-preserved-in-Continue-branch-5
variables-preserved-in-Continue-branch-5 c =
    let s : State = c.args.store.now.state in
    let met : Met s (reverse c.variables.work.items) (reverse c.next_variable.new.work.items) c.in-Some.number c.in-Some.place =
    subst (IsNext s (reverse c.variables.work.items) (reverse c.next_variable.new.work.items)) c.in-Some.is c.in_ok-number.ensures in
    let keys = c.in_ok-insert-in-Some.ensures.keys ∙ added-keys c.variables.seen.keys c.in-Some.number _ c.if-branch.true c.in_ok-insert-in-Some.ensures.added in
    record {
      rest = met.places;
      places = subst (AreRefs s) (sym c.in_ok-push-in-Some.ensures.items) (AreRefs-push s c.variables.places.items c.in-Some.place c.variables.invariant.places met.place);
      trees = met-trees s c.variables.places.items _ c.in-Some.place c.in-Some.number c.variables.seen.keys _ c.in_ok-push-in-Some.ensures.items keys met.tree c.variables.invariant.trees;
      whole = met-whole s c.variables.seen.keys _ _ _ c.in-Some.number _ met.occurrences c.in_ok-insert-in-Some.ensures.keys c.variables.invariant.whole;
    }
