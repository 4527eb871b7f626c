use Rattle.std.proofs.Common.{◌≡◌, true, None, sym, ap, ◌∙◌, map, subst}
use Rattle.pl_ops.specs.Tables.{operator}
use Rattle.unit_model.specs.Preparing.{operators_known, declaration}
use Rattle.unit_model.specs.Encoding.{text_at}
use Rattle.prep_texts.specs.Looking.{extended, accepts_all}
use Rattle.prep_texts.specs.Interfaces.{interfaces_view, operators_view}
use Rattle.prep_texts.specs.Drafts.{TakesOperators, Refuses}
use Rattle.prep_texts.proofs.ModuleLaws.{known-first, known-own, not-known, on-ok}
use Rattle.prep_texts.proofs.draft.Draft.take_operators.Goals as goal

pub returns-in-Some-clause-operators : goal.returns-in-Some-clause-operators
returns-in-Some-clause-operators c =
    let m = text_at c.args.self.now.names c.args.name.0 in
    let os = operators_view c.in-Some.operators.now in
    let known = known-first c.args.known.now c.args.self.now m os (ap (operators_known c.args.known.now) (sym c.text.ensures) ∙ c.in-Some.ensures.some) in
    on-ok (accepts_all os (operator c.args.self.now.table) ≡ true) (operator c.add_operators.new.table ≡ extended (operator c.args.self.now.table) (map declaration os))
    (TakesOperators c.args.known.now m c.args.self.now c.add_operators.new.table) c.add_operators.result c.add_operators.ensures.accepted c.add_operators.ensures.table
    (λ a t. record { operators = os; is_known = known; accepted = a; taken = t })

pub returns-in-Some-clause-refused : goal.returns-in-Some-clause-refused
returns-in-Some-clause-refused c = λ n e.
    let m = text_at c.args.self.now.names c.args.name.0 in
    let os = operators_view c.in-Some.operators.now in
    let known = known-first c.args.known.now c.args.self.now m os (ap (operators_known c.args.known.now) (sym c.text.ensures) ∙ c.in-Some.ensures.some) in
    subst (λ o. Refuses o (operator c.args.self.now.table) n) (sym known) (c.add_operators.ensures.number n e, c.add_operators.ensures.refused n e)

pub returns-in-Some-operators-clause-operators : goal.returns-in-Some-operators-clause-operators
returns-in-Some-operators-clause-operators c =
    let m = text_at c.args.self.now.names c.args.name.0 in
    let os = operators_view c.in-Some-operators.operators.now in
    let none : operators_known c.args.known.now m ≡ None = ap (operators_known c.args.known.now) (sym c.text.ensures) ∙ not-known c.operators.result _ c.operators.ensures.none c.in_default.not-Some in
    let known = known-own c.args.known.now c.args.self.now m none ∙ ap (operators_known (interfaces_view c.args.self.now.own)) (sym c.text-2.ensures) ∙ c.in-Some-operators.ensures.some in
    on-ok (accepts_all os (operator c.args.self.now.table) ≡ true) (operator c.add_operators-in-Some-operators.new.table ≡ extended (operator c.args.self.now.table) (map declaration os))
    (TakesOperators c.args.known.now m c.args.self.now c.add_operators-in-Some-operators.new.table) c.add_operators-in-Some-operators.result c.add_operators-in-Some-operators.ensures.accepted c.add_operators-in-Some-operators.ensures.table
    (λ a t. record { operators = os; is_known = known; accepted = a; taken = t })

pub returns-in-Some-operators-clause-refused : goal.returns-in-Some-operators-clause-refused
returns-in-Some-operators-clause-refused c = λ n e.
    let m = text_at c.args.self.now.names c.args.name.0 in
    let none : operators_known c.args.known.now m ≡ None = ap (operators_known c.args.known.now) (sym c.text.ensures) ∙ not-known c.operators.result _ c.operators.ensures.none c.in_default.not-Some in
    let known = known-own c.args.known.now c.args.self.now m none ∙ ap (operators_known (interfaces_view c.args.self.now.own)) (sym c.text-2.ensures) ∙ c.in-Some-operators.ensures.some in
    subst (λ o. Refuses o (operator c.args.self.now.table) n) (sym known) (c.add_operators-in-Some-operators.ensures.number n e, c.add_operators-in-Some-operators.ensures.refused n e)

pub returns-in-None-clause-refused : goal.returns-in-None-clause-refused
returns-in-None-clause-refused c = λ n e.
    let m = text_at c.args.self.now.names c.args.name.0 in
    let none : operators_known c.args.known.now m ≡ None = ap (operators_known c.args.known.now) (sym c.text.ensures) ∙ not-known c.operators.result _ c.operators.ensures.none c.in_default.not-Some in
    let known = known-own c.args.known.now c.args.self.now m none ∙ ap (operators_known (interfaces_view c.args.self.now.own)) (sym c.text-2.ensures) ∙ c.in-None.ensures.none in
    let eleven : n ≡ 11 = cc in
    subst (λ o. Refuses o (operator c.args.self.now.table) n) (sym known) eleven
