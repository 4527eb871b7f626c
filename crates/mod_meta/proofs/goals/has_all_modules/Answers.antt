use Rattle.std.proofs.Common.{◌≡◌, ◌∙◌, ℕ, ap, sym, arith, false, get_or}
use Rattle.pl_terms.specs.Trees.{Tree}
use Rattle.pl_unify.specs.Shape.{nth_tree}
use Rattle.pl_unify.specs.State.{tree_at}
use Rattle.mod_meta.specs.Qualified.{lacks_module, arguments_of}
use Rattle.mod_meta.proofs.Qualifying.{kept-more, kept-all, arity-count, argument-nth}
use Rattle.mod_meta.proofs.goals.has_all_modules.Goals as goal

pub arguments-preserved : goal.arguments-preserved
arguments-preserved c n m colon =
    let t : Tree ℕ = tree_at c.args.store.now.state c.args.goal in
    let nothing : lacks_module n (get_or c.args.modes.now c.arguments.k false) (nth_tree (arguments_of t) c.arguments.k) ≡ false =
    ap (lacks_module n (get_or c.args.modes.now c.arguments.k false)) (sym (c.arg-arg.ensures.tree ∙ argument-nth t c.arguments.k))
    ∙ (ap (λ b. lacks_module n b (tree_at c.args.store.now.state c.arg-arg.result)) (sym c.is_meta.ensures)
    ∙ (sym (c.lacks_module.ensures n colon) ∙ c.if-lacks_module.false)) in
    kept-more n c.args.modes.now m (arguments_of t) c.arguments.k (c.requires.modes ∙ (c.requires.count ∙ arity-count t)) (omega arith) nothing (c.arguments.invariant n m colon)

pub returns-clause-same : goal.returns-clause-same
returns-clause-same c all n m colon =
    kept-all n c.args.modes.now m (tree_at c.args.store.now.state c.args.goal) c.arguments.k (c.requires.modes ∙ c.requires.count) (omega arith) (c.arguments.invariant n m colon)
