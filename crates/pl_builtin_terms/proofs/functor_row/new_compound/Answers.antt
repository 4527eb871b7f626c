use Rattle.std.proofs.Common.{◌∙◌, [], ◌∷◌, ◌++◌, ap, sym, subst, length, map, arith, ℕ, List}
use Rattle.std.proofs.lemmas.List.{map-append, length_push}
use Rattle.pl_terms.specs.Trees.{Tree, var}
use Rattle.pl_unify.specs.State.{State, Grows, tree_at}
use Rattle.pl_unify.specs.Making.{AreRefs}
use Rattle.pl_unify.proofs.Loading.{Grows-trans}
use Rattle.builtin_model.specs.Lists.{variables_from}
use Rattle.pl_builtin_terms.proofs.Walks.{AreRefs-grown, AreRefs-push, map-grown}
use Rattle.pl_builtin_terms.proofs.Lists.{variables_from-last}
use Rattle.pl_builtin_terms.proofs.functor_row.new_compound.Goals as goal

pub arguments-preserved : goal.arguments-preserved
arguments-preserved c =
    let old : State = c.args.store.now.state in
    let s : State = c.arguments.store.state in
    let new : State = c.fresh.new.self.state in
    let g : Grows s new = c.in_ok-arg.ensures.grows in
    let before : List (Tree ℕ) = variables_from old.next c.arguments._i in
    record {
      grows = Grows-trans old s new c.arguments.invariant.grows g;
      next = omega (arith, c.in_ok-arg.ensures.next, c.arguments.invariant.next);
      count = omega (arith, ap length c.in_ok-push.ensures.items, length_push c.arguments.args.items c.in_ok-arg.arg, c.arguments.invariant.count);
      places = subst (AreRefs new) (sym c.in_ok-push.ensures.items)
          (AreRefs-push new c.arguments.args.items c.in_ok-arg.arg (AreRefs-grown s new c.arguments.args.items g c.arguments.invariant.places) c.in_ok-arg.ensures.variable.0);
      trees = ap (map (tree_at new)) c.in_ok-push.ensures.items
          ∙ (map-append (tree_at new) c.arguments.args.items (c.in_ok-arg.arg ∷ [])
          ∙ (ap (λ ts. ts ++ tree_at new c.in_ok-arg.arg ∷ []) (map-grown s new c.arguments.args.items g c.arguments.invariant.places ∙ c.arguments.invariant.trees)
          ∙ (ap (λ t. before ++ t ∷ []) (c.in_ok-arg.ensures.variable.1 ∙ ap var c.arguments.invariant.next)
          ∙ sym (variables_from-last old.next c.arguments._i))));
    }
