use Rattle.std.proofs.Common.{◌≡◌, ap, ◌∙◌}
use Rattle.unit_model.specs.Encoding.{text_at}
use Rattle.prep_texts.specs.declared.draft.Draft.{Draft}
use Rattle.prep_texts.proofs.Agreeing.{front-agrees}
use Rattle.prep_texts.proofs.ModuleLaws.{body-opens}
use Rattle.prep_texts.proofs.draft.Draft.open_body.Goals as goal

pub returns-in-Ok-clause-ok : goal.returns-in-Ok-clause-ok
returns-in-Ok-clause-ok c =
    let old = c.args.self.now in
    let d1 = c.need_of.new.self in
    let d2 = c.begin.new.self in
    let m = text_at old.names c.args.name.0 in
    let e : text_at d1.names c.args.name.0 ≡ m = front-agrees old.names d1.names c.in_ok-need_of.ensures.names c.args.name.0 c.requires.below in
    body-opens c.args.known.now old m c.args.byte d1 c.in_ok-need_of.ensures.needs (ap (λ (d : Draft). d.own) c.in_ok-need_of.ensures.same)
    d2 c.in_ok-table.table (text_at d1.names c.args.name.0) (text_at d2.names c.args.name.0) e (ap (λ (d : Draft). text_at d.names c.args.name.0) c.begin.ensures.same ∙ e)
    (c.begin.ensures.seen c.args.known.now) (ap (λ (d : Draft). d.own) c.begin.ensures.same) (ap (λ (d : Draft). d.table) c.begin.ensures.same) c.in_ok-table.ensures
    c.take_operators.new.self c.in-Ok.ensures.operators c.in-Ok.ensures.same
