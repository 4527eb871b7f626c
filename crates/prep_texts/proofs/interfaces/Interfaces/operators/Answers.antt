use Rattle.std.proofs.Common.{[], ap, sym, ◌∙◌, arith, Some}
use Rattle.prep_texts.specs.Interfaces.{operators_view}
use Rattle.prep_texts.specs.declared.interfaces.KnownInterface.{KnownInterface}
use Rattle.prep_texts.proofs.InterfaceLaws.{place-found, place-none}
use Rattle.prep_texts.proofs.interfaces.Interfaces.operators.Goals as goal

pub index-requires : goal.index-requires
index-requires c =
    let d : KnownInterface = record { «module» = []; operators = [] } in
    let found = place-found c.args.name.now c.args.self.now.all.items c.in-Some.place.now d (sym (c.requires c.args.name.now) ∙ sym c.in-Some.ensures.value) in
    let within = found.within in
    omega (arith, within, c.args.self.now.all.ok)

pub returns-in-Some-clause-some : goal.returns-in-Some-clause-some
returns-in-Some-clause-some c =
    let found = place-found c.args.name.now c.args.self.now.all.items c.in-Some.place.now c.index.result.now (sym (c.requires c.args.name.now) ∙ sym c.in-Some.ensures.value) in
    found.operators ∙ ap (λ (i : KnownInterface). Some (operators_view i.operators)) (sym c.index.ensures) ∙ ap (λ os. Some (operators_view os)) (sym c.as_slice.ensures)

pub returns-in-None-clause-none : goal.returns-in-None-clause-none
returns-in-None-clause-none c =
    place-none c.args.name.now c.args.self.now.all.items (sym (c.requires c.args.name.now) ∙ sym c.in-None.ensures.value)
