use Rattle.std.proofs.Common.{◌||◌, is_some, Option, sym, ap, ◌∙◌, List}
use Rattle.unit_model.specs.Facts.{OperatorOf}
use Rattle.unit_model.specs.Directives.{Text}
use Rattle.unit_model.specs.Preparing.{is_reserved}
use Rattle.prep_texts.proofs.ModuleLaws.{known-first, known-own}
use Rattle.prep_texts.proofs.draft.Draft.may_not_open.Goals as goal

pub returns-in-Some : goal.returns-in-Some
returns-in-Some c =
    let m = c.args.name.now in
    sym (ap (λ (o : Option (List (OperatorOf Text))). is_some o || is_reserved m) (known-first c.args.known.now c.args.self.now m _ c.in-Some.ensures.some))

pub returns-in-Some-operators : goal.returns-in-Some-operators
returns-in-Some-operators c =
    let m = c.args.name.now in
    sym (ap (λ (o : Option (List (OperatorOf Text))). is_some o || is_reserved m) (known-own c.args.known.now c.args.self.now m c.in-None.ensures.none ∙ c.in-Some-operators.ensures.some))

pub returns-in-None-operators : goal.returns-in-None-operators
returns-in-None-operators c =
    let m = c.args.name.now in
    c.is_reserved.ensures ∙ sym (ap (λ (o : Option (List (OperatorOf Text))). is_some o || is_reserved m) (known-own c.args.known.now c.args.self.now m c.in-None.ensures.none ∙ c.in-None-operators.ensures.none))
