use Rattle.std.proofs.Common.{◌≡◌, ◌||◌, sym, ap, ◌∙◌, List, Bor, map}
use Rattle.unit_model.specs.Facts.{Need}
use Rattle.unit_model.specs.Preparing.{holds, operators_known}
use Rattle.unit_model.specs.Directives.{Text}
use Rattle.prep_texts.specs.declared.interfaces.KnownOperator.{KnownOperator}
use Rattle.prep_texts.specs.declared.interfaces.KnownInterface.{KnownInterface}
use Rattle.prep_texts.specs.Interfaces.{interfaces_view, operators_view}
use Rattle.prep_texts.specs.Drafts.{needs_in}
use Rattle.prep_texts.proofs.NeedLaws.{known-held, place-held, mapped-some, shown}
use Rattle.prep_texts.proofs.draft.Draft.is_needed.Goals as goal

pub returns-then-is_some : goal.returns-then-is_some
returns-then-is_some c = λ known.
    let own : List Text = map (λ (i : KnownInterface). i.module) c.args.self.now.own.all.items in
    let needs : List Text = map (λ (n : Need Text). n.of) (needs_in c.args.self.now.names c.args.self.now.needs) in
    let e : c.is_some.result ≡ holds own c.args.name.now =
    c.is_some.ensures ∙ shown c.operators.result (operators_known (interfaces_view c.args.self.now.own) c.args.name.now) (λ (os : Bor (List KnownOperator)). operators_view os.now) c.operators.ensures.some c.operators.ensures.none
    ∙ known-held c.args.self.now.own.all.items c.args.name.now in
    c.if-is_some.true ∙ ap (λ b. b || holds needs c.args.name.now) (sym c.if-is_some.true ∙ e)

pub returns-else-is_some : goal.returns-else-is_some
returns-else-is_some c = λ known.
    let own : List Text = map (λ (i : KnownInterface). i.module) c.args.self.now.own.all.items in
    let needs : List Text = map (λ (n : Need Text). n.of) (needs_in c.args.self.now.names c.args.self.now.needs) in
    let e : c.is_some.result ≡ holds own c.args.name.now =
    c.is_some.ensures ∙ shown c.operators.result (operators_known (interfaces_view c.args.self.now.own) c.args.name.now) (λ (os : Bor (List KnownOperator)). operators_view os.now) c.operators.ensures.some c.operators.ensures.none
    ∙ known-held c.args.self.now.own.all.items c.args.name.now in
    let n : c.is_some-else-is_some.result ≡ holds needs c.args.name.now =
    c.is_some-else-is_some.ensures ∙ mapped-some c.find.result _ c.find.ensures ∙ place-held c.args.self.now.needed c.args.name.now ∙ ap (λ l. holds l c.args.name.now) c.requires.needed in
    n ∙ ap (λ b. b || holds needs c.args.name.now) (sym c.if-is_some.false ∙ e)
