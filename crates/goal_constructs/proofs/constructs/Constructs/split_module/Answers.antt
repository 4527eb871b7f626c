use Rattle.std.proofs.Common.{◌≡◌, ◌∙◌, sym, ap, eq-eqb}
use Rattle.pl_unify.specs.declared.word.View.TheVariants as V
use Rattle.pl_unify.specs.State.{tree_at}
use Rattle.goal_constructs.proofs.CallingLaws.{qualified-is}
use Rattle.goal_constructs.proofs.constructs.Constructs.split_module.Goals as goal

pub returns-then-name-names : goal.returns-then-name-names
returns-then-name-names c =
    let g = c.args.self.now.names in
    let e : c.in-Comp-default-eq2.name.0 ≡ g.colon.0 = c.if-name-names.true ∙ ap (λ x. x.colon.0) c.names.ensures in
    qualified-is c.args.self.now c.args.store.now.state (tree_at c.args.store.now.state c.args.at) c.in-Comp-default-eq2.name c.arg.result c.arg-then-name-names.result
    (sym c.in-Comp-default-eq2.ensures ∙ ap (V.Comp c.in-Comp-default-eq2.name) c.in-Comp-default-eq2.field-1-test)
    e (eq-eqb c.in-Comp-default-eq2.name.0 g.colon.0 e)
    c.arg.ensures.place c.arg-then-name-names.ensures.place c.arg.ensures.tree c.arg-then-name-names.ensures.tree
