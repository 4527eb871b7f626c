use Rattle.std.proofs.Common.{◌++◌, ◌∷◌, [], sym, ap, ◌∙◌, length, get_or, set, Some, None}
use Rattle.unit_order.specs.Numbering.{known_place}
use Rattle.unit_order.proofs.Places.{noted_some, none_of, noted_new, put_place}
use Rattle.unit_order.proofs.numbering.Numbering.note.Goals as goal

pub returns-then-is_some : goal.returns-then-is_some
returns-then-is_some c =
    let n = c.args.name.0 in
    noted_some c.args.self.now n c.place_at.result
    (ap (known_place n) (sym c.self.view_is) ∙ sym (c.self.invariant n) ∙ ap (λ l. get_or l n None) (sym c.as_slice.ensures.value) ∙ sym c.place_at.ensures)
    (sym c.is_some.ensures ∙ c.if-is_some.true)

pub invariant_of-self-2 : goal.invariant_of-self-2
invariant_of-self-2 c = λ k.
    let n = c.args.name.0 in
    let new = sym (c.self.invariant n) ∙ ap (λ l. get_or l n None) (sym c.as_slice.ensures.value) ∙ sym c.place_at.ensures ∙ none_of c.place_at.result (sym c.is_some.ensures ∙ c.if-is_some.false) in
    ap (λ m. get_or (set c.reach.new.places.items n (Some m)) k None) (ap length c.as_slice-used.ensures.value)
    ∙ put_place c.reach.new.places.items c.self.inside.used.items n (λ j. c.in_ok-reach.ensures.same j ∙ c.self.invariant j) c.in_ok-reach.ensures.long new k
    ∙ ap (known_place k) (sym c.in_ok-push.ensures.items)

pub returns : goal.returns
returns c =
    let n = c.args.name.0 in
    let new = ap (known_place n) (sym c.self.view_is) ∙ sym (c.self.invariant n) ∙ ap (λ l. get_or l n None) (sym c.as_slice.ensures.value) ∙ sym c.place_at.ensures ∙ none_of c.place_at.result (sym c.is_some.ensures ∙ c.if-is_some.false) in
    c.in_ok-push.ensures.items ∙ ap (λ l. l ++ n ∷ []) c.self.view_is ∙ noted_new [] c.args.self.now n new
