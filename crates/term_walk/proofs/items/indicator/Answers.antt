use Rattle.pl_terms.specs.Order.{text_of}
use Rattle.term_walk.proofs.Readings.{indicator-is, no_indicator-is}
use Rattle.term_walk.proofs.items.indicator.Goals as goal

pub returns-then-is_functor-clause-form : goal.returns-then-is_functor-clause-form
returns-then-is_functor-clause-form c =
    let f = text_of c.args.names.now in
    indicator-is f c.args.walk.now c.again.result c.is_functor.result _ c.is_functor.ensures c.if-is_functor.true c.again.ensures (c.indicator_parts.ensures.form f)

pub returns-else-is_functor-clause-form : goal.returns-else-is_functor-clause-form
returns-else-is_functor-clause-form c = no_indicator-is (text_of c.args.names.now) c.args.walk.now c.is_functor.result c.is_functor.ensures c.if-is_functor.false
