use Rattle.std.proofs.Common.{◌≡◌, ◌∙◌, sym, ap, rules}
use Rattle.std.specs.Int.{w64}
use Rattle.std.specs.Int.RustNames.{FitsSigned}
use Rattle.std.proofs.lemmas.Int.{to_z-of_z}
use Rattle.pl_unify.specs.declared.word.View.TheVariants as V
use Rattle.pl_unify.specs.Shape.{root}
use Rattle.pl_unify.specs.Code.{code_tree}
use Rattle.value_model.specs.Value.{value}
use Rattle.pl_arith.proofs.Roots.{int_seen, one_worth, two_worth, ok_worth}
use Rattle.pl_arith.proofs.in_code.+value_within.Goals as goal

pub returns-in-Int : goal.returns-in-Int
returns-in-Int t c =
    let fz : FitsSigned w64 c.in-Int.z = search rules in
    simp to_z-of_z (ap (value c.args.names.now) (int_seen c.args.store.now.state c.args.base c.args.code.now.words c.args.p c.in-Int.z (sym c.in-Int.is ∙ c.view.ensures)))

pub returns-in_ok-x-in-Comp-default-eq1 : goal.returns-in_ok-x-in-Comp-default-eq1
returns-in_ok-x-in-Comp-default-eq1 t c =
    let ws = c.args.code.now.words in
    let name = c.in-Comp-default-eq1.name in
    let fx : FitsSigned w64 c.in_ok-x-in-Comp-default-eq1.x = search rules in
    let seen : V.Comp name 1 ≡ root (code_tree ws c.args.p) =
    ap (V.Comp name) (sym c.in-Comp-default-eq1.field-1-test) ∙ sym c.in-Comp-default-eq1.is ∙ c.view.ensures in
    ok_worth c.ok.result c.over_one.result _ _ c.ok.ensures.value (simp to_z-of_z at c.over_one.ensures)
    (one_worth c.args.store.now.state c.args.base ws c.args.names.now c.args.p c.arguments-first.result name c.in_ok-x-in-Comp-default-eq1.x seen
    c.arguments-first.ensures.trees c.in_ok-x-in-Comp-default-eq1.ensures)

pub returns-in_ok-y-in-Comp-default-eq2 : goal.returns-in_ok-y-in-Comp-default-eq2
returns-in_ok-y-in-Comp-default-eq2 t c =
    let ws = c.args.code.now.words in
    let name = c.in-Comp-default-eq2.name in
    let first = c.arguments-first-in-Comp-default-eq2 in
    let fx : FitsSigned w64 c.in_ok-x-in-Comp-default-eq2.x = search rules in
    let fy : FitsSigned w64 c.in_ok-y-in-Comp-default-eq2.y = search rules in
    let seen : V.Comp name 2 ≡ root (code_tree ws c.args.p) =
    ap (V.Comp name) (sym c.in-Comp-default-eq2.field-1-test) ∙ sym c.in-Comp-default-eq2.is ∙ c.view.ensures in
    ok_worth c.ok-in-Comp-default-eq2.result c.over_two.result _ _ c.ok-in-Comp-default-eq2.ensures.value (simp to_z-of_z at c.over_two.ensures)
    (two_worth c.args.store.now.state c.args.base ws c.args.names.now c.args.p first.result name c.in_ok-x-in-Comp-default-eq2.x c.in_ok-y-in-Comp-default-eq2.y seen
    first.ensures.trees c.in_ok-x-in-Comp-default-eq2.ensures c.in_ok-y-in-Comp-default-eq2.ensures)
