use Rattle.std.proofs.Common.{◌≡◌, ◌+◌, sym, ◌∙◌, refl, subst, ◌<◌, ◌≤◌}
use Rattle.pl_unify.specs.State.{tree_at}
use Rattle.goal_moves.proofs.ArgumentLaws.{arity-root, first-more, first-all}
use Rattle.goal_moves.proofs.builtins.arguments.Goals as goal
use Rattle.pl_unify.specs.Shape.{arity}

pub loop-k-preserved : goal.loop-k-preserved
loop-k-preserved c = record {
  first =
      let count : c.in-Comp.count ≡ arity (tree_at c.args.store.now.state c.args.goal) = arity-root (tree_at c.args.store.now.state c.args.goal) c.in-Comp.field-0 c.in-Comp.count (sym c.view.ensures ∙ c.in-Comp.is) in
      let below : c.loop-k.k < arity (tree_at c.args.store.now.state c.args.goal) = subst (λ n. c.loop-k.k < n) count c.loop-k-test.true in
      first-more c.args.store.now.state (tree_at c.args.store.now.state c.args.goal) c.loop-k.k (c.loop-k.k + 1) c.loop-k.args.items c.push.new.self.items c.arg.result below
      c.loop-k.invariant.first c.arg.ensures.place c.arg.ensures.tree c.in_ok-push.ensures.ok refl;
}

pub returns-clause-trees : goal.returns-clause-trees
returns-clause-trees c =
    let count : c.in-Comp.count ≡ arity (tree_at c.args.store.now.state c.args.goal) = arity-root (tree_at c.args.store.now.state c.args.goal) c.in-Comp.field-0 c.in-Comp.count (sym c.view.ensures ∙ c.in-Comp.is) in
    let all : arity (tree_at c.args.store.now.state c.args.goal) ≤ c.loop-k.k = subst (λ n. n ≤ c.loop-k.k) count c.loop-k-test.false in
    first-all c.args.store.now.state (tree_at c.args.store.now.state c.args.goal) c.loop-k.k c.loop-k.args.items all c.loop-k.invariant.first
