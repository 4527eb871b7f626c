use Rattle.pl_terms.specs.Order.{text_of}
use Rattle.mod_body.proofs.Steps.{control-more}
use Rattle.mod_body.proofs.convert.convert_goal.Goals as goal

pub returns-in_ok-push-in-Control-clause-ok : goal.returns-in_ok-push-in-Control-clause-ok
returns-in_ok-push-in-Control-clause-ok c =
    control-more (text_of c.args.names.now) c.args.call.0 c.args.goals.now c.enter.new.self c.in-Control.name c.args.out.now c.push-in-Control.new.self
    c.in_ok-push-in-Control.ensures.ok c.enter.ensures.trees c.in-Control.ensures
