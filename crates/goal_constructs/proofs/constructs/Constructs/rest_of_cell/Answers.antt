use Rattle.std.proofs.Common.{◌∙◌, sym, ap, eq-eqb, arith}
use Rattle.unifier_model.specs.Substitution.{size}
use Rattle.pl_unify.specs.declared.word.View.TheVariants as V
use Rattle.pl_unify.specs.State.{tree_at}
use Rattle.goal_constructs.specs.Balls.{after_cells}
use Rattle.goal_constructs.proofs.ListLaws.{cell-rest}
use Rattle.goal_constructs.proofs.constructs.Constructs.rest_of_cell.Goals as goal

pub returns-then-name-names : goal.returns-then-name-names
returns-then-name-names c =
    let g = c.args.self.now.names in
    let r = cell-rest g (tree_at c.args.store.now.state c.args.at) c.in-Comp-default-eq2.name (sym c.in-Comp-default-eq2.ensures ∙ ap (V.Comp c.in-Comp-default-eq2.name) c.in-Comp-default-eq2.field-1-test)
    (eq-eqb c.in-Comp-default-eq2.name.0 g.dot.0 (c.if-name-names.true ∙ ap (λ x. x.dot.0) c.names.ensures)) in
    (c.arg.ensures.place, r.0 ∙ ap (after_cells g) (sym c.arg.ensures.tree), omega (arith, r.1, ap size c.arg.ensures.tree))
