use Rattle.pl_terms.specs.Order.{text_of}
use Rattle.mod_body.proofs.Steps.{stays-one, stays-is}
use Rattle.mod_body.proofs.convert.is_converted.Goals as goal

pub returns : goal.returns
returns c =
    let f = text_of c.args.names.now in
    stays-is f c.args.body.now c.all_stay.result (stays-one f c.args.body.now c.all_stay.result c.of.result c.all_stay.ensures c.of.ensures)
