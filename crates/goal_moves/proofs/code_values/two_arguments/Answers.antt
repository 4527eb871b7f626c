use Rattle.std.proofs.Common.{◌≡◌, ◌∙◌, sym, ap}
use Rattle.pl_unify.specs.declared.word.View.TheVariants as V
use Rattle.pl_unify.specs.Shape.{root}
use Rattle.pl_unify.specs.Code.{code_tree}
use Rattle.goal_moves.proofs.ValueLaws.{pair_of}
use Rattle.goal_moves.proofs.code_values.two_arguments.Goals as goal

pub returns-in-Comp-default-eq2 : goal.returns-in-Comp-default-eq2
returns-in-Comp-default-eq2 c =
    let ws = c.args.code.now.words in
    let name = c.in-Comp-default-eq2.field-0 in
    let seen : V.Comp name 2 ≡ root (code_tree ws c.args.place) = ap (V.Comp name) (sym c.in-Comp-default-eq2.field-1-test) ∙ sym c.in-Comp-default-eq2.is ∙ c.view.ensures in
    pair_of ws c.args.place c.arguments.result name seen c.arguments.ensures.trees c.arguments.ensures.places
