use Rattle.std.proofs.Common.{◌≡◌, ◌<◌, ◌+◌, ◌-◌, ◌^◌, ◌∙◌, ◌∷◌, [], ℕ, refl, ap, sym, subst, arith, length, map, drop, get_or}
use Rattle.std.proofs.lemmas.List.{length-map}
use Rattle.pl_terms.specs.declared.cell.Cell.TheVariants as C
use Rattle.unifier_model.specs.Substitution.{raise, apply}
use Rattle.pl_unify.specs.Prefix.{build, first_tree}
use Rattle.pl_unify.proofs.PrefixLaws.{Enough, Enough-tree, build-tree, IsCell-forest}
use Rattle.pl_unify.specs.Load.{word_trees, NewInOrder}
use Rattle.pl_unify.specs.State.{bound, tree_at}
use Rattle.pl_unify.proofs.Loading.{cell_allowed, Further, further, length-word_trees, Grows-trans, IfOk-map}
use Rattle.pl_unify.proofs.store.Store.load_words.Goals as goal
use Rattle.pl_unify.proofs.store.Store.load_words.Goals.{After-cells-cells, After-place_of_last-arg-2-1}

enough : (c : After-cells-cells) → Enough c.cells-cells.result.now
enough c = subst Enough (sym c.cells-cells.ensures.same) (Enough-tree c.args.term.now)

pub add_cell-requires-clause-allowed : goal.add_cell-requires-clause-allowed
add_cell-requires-clause-allowed c =
    let i : ℕ = c.loop-left.left - 1 in
    let one : i + 1 ≡ c.loop-left.left = omega arith in
    let cs = c.cells-cells.result.now in
    let count : length c.loop-left.words.items ≡ length (build (drop (i + 1) cs)) =
    sym (length-word_trees c.loop-left.self.state c.loop-left.words.items)
    ∙ (ap length c.loop-left.invariant.trees ∙ (length-map (build (drop c.loop-left.left cs)) (raise c.args.base) ∙ ap (λ k. length (build (drop k cs))) (sym one))) in
    let order : NewInOrder c.args.base c.args.self.now.state.next cs = rw c.cells-cells.ensures.same c.requires.order in
    let small : c.args.self.now.state.next < 2 ^ 63 = omega (arith, c.next_var-next.ensures.small, c.next_var-next.ensures.next) in
    cell_allowed c.args.base c.args.self.now.state.next (length c.loop-left.words.items) i cs (get_or cs i (C.Var 0)) (C.Var 0) (omega arith) refl order (enough (goal.at.add_cell-requires-clause-allowed c).After-cells-cells) small (omega arith) count (IsCell-forest i cs c.cells-cells.ensures.whole.whole)

pub loop-left-preserved : goal.loop-left-preserved
loop-left-preserved c =
    let i : ℕ = c.loop-left.left - 1 in
    let one : i + 1 ≡ c.loop-left.left = omega arith in
    let cs = c.cells-cells.result.now in
    let was : Further c.args.base c.args.self.now.state c.loop-left.self.state c.loop-left.words.items (i + 1) cs = rw one (record { trees = c.loop-left.invariant.trees; next = c.loop-left.invariant.next }) in
    let f = further c.args.base c.args.self.now.state c.loop-left.self.state c.add_cell.new.self.state c.loop-left.words.items c.add_cell.new.words.items i cs (get_or cs i (C.Var 0)) (C.Var 0) (omega arith) refl was
    c.in_ok-add_cell.ensures.trees c.in_ok-add_cell.ensures.next in
    record {
      few = omega arith;
      grows = Grows-trans c.args.self.now.state c.loop-left.self.state c.add_cell.new.self.state c.loop-left.invariant.grows c.add_cell.ensures.grows;
      words = c.in_ok-add_cell.ensures.words;
      trees = f.trees;
      next = f.next;
    }

whole : (c : After-place_of_last-arg-2-1) → word_trees c.loop-left.self.state c.loop-left.words.items ≡ raise c.args.base c.args.term.now ∷ []
whole c =
    let zero_left : c.loop-left.left ≡ 0 = omega arith in
    c.loop-left.invariant.trees
    ∙ (ap (λ k. map (raise c.args.base) (build (drop k c.cells-cells.result.now))) zero_left
    ∙ ap (map (raise c.args.base)) (ap build c.cells-cells.ensures.same ∙ build-tree c.args.term.now))

pub place_of_last-requires-clause-some : goal.place_of_last-requires-clause-some
place_of_last-requires-clause-some c = omega (arith, length-word_trees c.loop-left.self.state c.loop-left.words.items, ap length (whole c))

pub returns-clause-tree : goal.returns-clause-tree
returns-clause-tree c =
    let w = whole (goal.at.returns-clause-tree c).After-place_of_last-arg-2-1 in
    IfOk-map c.place_of_last.result _ (λ at. tree_at c.place_of_last.new.self.state at ≡ apply (bound c.args.self.now.state) (raise c.args.base c.args.term.now))
    (λ at e. e ∙ (ap (apply (bound c.loop-left.self.state)) (ap first_tree w) ∙ ap (λ b. apply b (raise c.args.base c.args.term.now)) c.loop-left.invariant.grows.bound))
    c.place_of_last.ensures.tree
