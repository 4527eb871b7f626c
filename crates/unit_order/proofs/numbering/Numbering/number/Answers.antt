use Rattle.std.proofs.Common.{[], sym, ap, ◌∙◌, length, get_or, None}
use Rattle.unit_order.specs.Numbering.{known_place}
use Rattle.unit_order.proofs.Places.{number_known, number_unknown}
use Rattle.unit_order.proofs.numbering.Numbering.number.Goals as goal

pub returns-in-Some : goal.returns-in-Some
returns-in-Some c =
    let n = c.args.name.0 in
    number_known [] c.args.self.now n c.in-Some.place
    (ap (known_place n) (sym c.self.view_is) ∙ sym (c.self.invariant n) ∙ ap (λ l. get_or l n None) (sym c.as_slice.ensures.value) ∙ sym c.in-Some.ensures)

pub returns-in-None : goal.returns-in-None
returns-in-None c =
    let n = c.args.name.0 in
    ap length (c.as_slice-used.ensures.value ∙ c.self.view_is)
    ∙ number_unknown [] c.args.self.now n
    (ap (known_place n) (sym c.self.view_is) ∙ sym (c.self.invariant n) ∙ ap (λ l. get_or l n None) (sym c.as_slice.ensures.value) ∙ sym c.in-None.ensures)
