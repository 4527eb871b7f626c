use Rattle.std.proofs.Common.{◌≡◌, ◌∙◌, ◌<◌, ℕ, List, Bool, false, [], ◌∷◌, ◌++◌, ap, sym, subst, length, map, take, get_or, arith}
use Rattle.std.proofs.lemmas.List.{map-append, length_push}
use Rattle.pl_terms.specs.Trees.{Tree, count, atom}
use Rattle.pl_unify.specs.Prefix.{listed}
use Rattle.pl_unify.specs.Shape.{arity, argument, nth_tree}
use Rattle.pl_unify.specs.State.{State, Grows, IsRef, tree_at}
use Rattle.pl_unify.specs.Making.{AreRefs}
use Rattle.pl_unify.specs.declared.word.Ref.{Ref}
use Rattle.pl_unify.proofs.Loading.{Grows-trans}
use Rattle.goal_model.specs.Environments.{in_context, qualified}
use Rattle.mod_meta.specs.Qualified.{arguments_of}
use Rattle.mod_meta.proofs.Qualifying.{AreRefs-grown, AreRefs-push, map-grown, passed-more, passed-all, arity-count, argument-nth, place-kept}
use Rattle.mod_meta.proofs.goals.arguments.Goals as goal

pub arg-arg-requires : goal.arg-arg-requires
arg-arg-requires c =
    let old : State = c.args.store.now.state in
    let s0 : State = c.place_of_name.new.self.state in
    let s : State = c.arguments.store.state in
    let kept : tree_at s c.args.goal ≡ tree_at old c.args.goal = place-kept old s0 s c.args.goal c.place_of_name.ensures.grows c.arguments.invariant.grows c.requires.place in
    let below : c.arguments.k < arity (tree_at old c.args.goal) = omega (arith, c.requires.count) in
    record {
      place = omega (arith, c.requires.place, c.place_of_name.ensures.grows.extends.more_cells, c.arguments.invariant.grows.extends.more_cells);
      argument = subst (λ t. c.arguments.k < arity t) (sym kept) below;
    }

pub arguments-preserved : goal.arguments-preserved
arguments-preserved c =
    let old : State = c.args.store.now.state in
    let s0 : State = c.place_of_name.new.self.state in
    let s : State = c.arguments.store.state in
    let new : State = c.argument.new.store.state in
    let g : Grows s new = c.argument.ensures.grows in
    let items : List Ref = c.arguments.args.items in
    let passed : Ref = c.in_ok-passed.passed in
    let k : ℕ = c.arguments.k in
    let bs : List Bool = c.args.modes.now in
    let t0 : Tree ℕ = tree_at s0 c.args.goal in
    let first : t0 ≡ tree_at old c.args.goal = c.place_of_name.ensures.grows.places c.args.goal c.requires.place in
    let there : IsRef s0 c.args.goal = omega (arith, c.requires.place, c.place_of_name.ensures.grows.extends.more_cells) in
    let module_there : tree_at s c.in_ok-context.context ≡ atom c.args.context.0 =
    c.arguments.invariant.grows.places c.in_ok-context.context c.in_ok-context.ensures.place ∙ c.in_ok-context.ensures.tree in
    let same : tree_at s c.arg-arg.result ≡ nth_tree (arguments_of t0) k =
    c.arg-arg.ensures.tree ∙ (ap (λ t. argument t k) (c.arguments.invariant.grows.places c.args.goal there) ∙ argument-nth t0 k) in
    let count_is : length bs ≡ count (arguments_of t0) = c.requires.modes ∙ (c.requires.count ∙ (ap arity (sym first) ∙ arity-count t0)) in
    record {
      grows = Grows-trans s0 s new c.arguments.invariant.grows g;
      next = c.argument.ensures.next ∙ c.arguments.invariant.next;
      count = omega (arith, ap length c.in_ok-push.ensures.items, length_push items passed, c.arguments.invariant.count);
      places = subst (AreRefs new) (sym c.in_ok-push.ensures.items) (AreRefs-push new items passed (AreRefs-grown s new items g c.arguments.invariant.places) c.in_ok-passed.ensures.place);
      trees = λ n colon.
          ap (map (tree_at new)) c.in_ok-push.ensures.items
          ∙ (map-append (tree_at new) items (passed ∷ [])
          ∙ (ap (λ ts. ts ++ tree_at new passed ∷ []) (map-grown s new items g c.arguments.invariant.places ∙ c.arguments.invariant.trees n colon)
          ∙ (ap (λ t. take k (listed (qualified n bs c.args.context.0 (arguments_of t0))) ++ t ∷ [])
          (c.in_ok-passed.ensures.tree n c.args.context.0 colon module_there
          ∙ (ap (λ b. in_context n c.args.context.0 b (tree_at s c.arg-arg.result)) c.is_meta.ensures
          ∙ ap (in_context n c.args.context.0 (get_or bs k false)) same))
          ∙ sym (passed-more n bs c.args.context.0 (arguments_of t0) k count_is (omega arith)))));
    }

pub returns-clause-trees : goal.returns-clause-trees
returns-clause-trees c n colon =
    let s0 : State = c.place_of_name.new.self.state in
    let t0 : Tree ℕ = tree_at s0 c.args.goal in
    let first : t0 ≡ tree_at c.args.store.now.state c.args.goal = c.place_of_name.ensures.grows.places c.args.goal c.requires.place in
    c.arguments.invariant.trees n colon
    ∙ (passed-all n c.args.modes.now c.args.context.0 (arguments_of t0) c.arguments.k (c.requires.modes ∙ (c.requires.count ∙ (ap arity (sym first) ∙ arity-count t0))) (omega arith)
    ∙ ap (λ t. listed (qualified n c.args.modes.now c.args.context.0 (arguments_of t))) first)
