use Rattle.std.proofs.Common.{ap, sym, ◌∙◌}
use Rattle.pl_terms.specs.Order.{text_of}
use Rattle.mod_body.specs.Converting.{all_stay}
use Rattle.mod_body.proofs.Steps.{control_stays, none_stay, not_so}
use Rattle.mod_body.proofs.convert.all_stay.Goals as goal

pub loop-goals-preserved-in-Control : goal.loop-goals-preserved-in-Control
loop-goals-preserved-in-Control c =
    let f = text_of c.args.names.now in
    ap (all_stay f) c.enter.ensures.trees ∙ sym (control_stays f c.loop-goals.goals c.in-Control.field-0 (sym c.in-Control.ensures)) ∙ c.loop-goals.invariant

pub returns : goal.returns
returns c =
    let f = text_of c.args.names.now in
    sym (none_stay f c.loop-goals.goals (not_so c.has_more.result c.loop-goals-test.false c.has_more.ensures.1)) ∙ c.loop-goals.invariant
