use Rattle.std.proofs.Common.{◌∙◌, sym, ap}
use Rattle.pl_unify.specs.declared.word.View.TheVariants as V
use Rattle.pl_unify.specs.State.{tree_at}
use Rattle.goal_constructs.proofs.ConversionLaws.{control-piece}
use Rattle.goal_constructs.proofs.constructs.Constructs.piece.Goals as goal

pub returns-then-is_control : goal.returns-then-is_control
returns-then-is_control c =
    control-piece c.args.self.now c.args.store.now.state (tree_at c.args.store.now.state c.args.at) c.in-Comp-default-eq2.name c.arg.result c.arg-then-is_control.result
    (sym c.in-Comp-default-eq2.ensures ∙ ap (V.Comp c.in-Comp-default-eq2.name) c.in-Comp-default-eq2.field-1-test)
    (sym c.is_control.ensures ∙ c.if-is_control.true)
    c.arg.ensures.place c.arg-then-is_control.ensures.place c.arg.ensures.tree c.arg-then-is_control.ensures.tree
