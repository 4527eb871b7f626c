use Rattle.std.proofs.Common.{◌≡◌, true, false, not, is_some, None, sym, ap, ◌∙◌, List, Bor}
use Rattle.unit_model.specs.Preparing.{operators_known}
use Rattle.unit_model.specs.Encoding.{text_at}
use Rattle.prep_texts.specs.declared.interfaces.KnownOperator.{KnownOperator}
use Rattle.prep_texts.specs.Interfaces.{interfaces_view, operators_view}
use Rattle.prep_texts.proofs.NeedLaws.{shown}
use Rattle.prep_texts.proofs.ModuleLaws.{known-first, known-own, own-need, not-known, none-known}
use Rattle.prep_texts.proofs.draft.Draft.need_of.Goals as goal

pub returns-in-Some-clause-needs : goal.returns-in-Some-clause-needs
returns-in-Some-clause-needs c = record {
  operators = operators_view c.in-Some.operators.now;
  is_known =
      known-first c.args.known.now c.args.self.now (text_at c.args.self.now.names c.args.name.0) (operators_view c.in-Some.operators.now)
      (ap (operators_known c.args.known.now) (sym c.text.ensures) ∙ c.in-Some.ensures.some);
  noted = c.in_ok-need.ensures.needs c.args.known.now;
}

pub returns-then-is_none-clause-unknown : goal.returns-then-is_none-clause-unknown
returns-then-is_none-clause-unknown c = λ n e.
    let m = text_at c.args.self.now.names c.args.name.0 in
    let none : operators_known c.args.known.now m ≡ None = ap (operators_known c.args.known.now) (sym c.text.ensures) ∙ not-known c.operators.result _ c.operators.ensures.none c.in_default.not-Some in
    let absent : is_some c.operators-2.result ≡ false = c.is_none.ensures ∙ ap not c.if-is_none.true in
    known-own c.args.known.now c.args.self.now m none ∙ ap (operators_known (interfaces_view c.args.self.now.own)) (sym c.text-2.ensures) ∙ none-known c.operators-2.result _ c.operators-2.ensures.none absent

pub returns-clause-needs : goal.returns-clause-needs
returns-clause-needs c =
    let m = text_at c.args.self.now.names c.args.name.0 in
    let none : operators_known c.args.known.now m ≡ None = ap (operators_known c.args.known.now) (sym c.text.ensures) ∙ not-known c.operators.result _ c.operators.ensures.none c.in_default.not-Some in
    let there : is_some c.operators-2.result ≡ true = c.is_none.ensures ∙ ap not c.if-is_none.false in
    own-need c.args.known.now c.args.self.now m c.args.byte none
    (ap (λ k. is_some (operators_known (interfaces_view c.args.self.now.own) k)) (sym c.text-2.ensures)
    ∙ sym (shown c.operators-2.result (operators_known (interfaces_view c.args.self.now.own) c.text-2.result.now) (λ (os : Bor (List KnownOperator)). operators_view os.now) c.operators-2.ensures.some c.operators-2.ensures.none) ∙ there)
