use Rattle.std.proofs.Common.{sym, ◌∙◌}
use Rattle.unit_format.proofs.SetLaws.{needs_begin, needs_go_on, needs_stop, needs_are_done}
use Rattle.unit_format.proofs.modules.add_needs.Goals as goal

pub loop-need-init : goal.loop-need-init
loop-need-init c = needs_begin c.args.names.now c.args.known.now.ids.keys c.args.needs.now

pub loop-need-preserved : goal.loop-need-preserved
loop-need-preserved c =
    needs_go_on c.args.names.now c.loop-need.known.ids.keys c.add.new.self.ids.keys c.args.known.now.ids.keys c.loop-need.need-index c.args.needs.now c.need-item.result c.loop-need-test.true (sym c.need-item.is) (sym c.may_be_needed.ensures ∙ c.if-not-may_be_needed.false) c.in_ok-add.ensures c.loop-need.invariant

pub returns-then-not-may_be_needed-clause-test : goal.returns-then-not-may_be_needed-clause-test
returns-then-not-may_be_needed-clause-test c =
    needs_stop c.args.names.now c.loop-need.known.ids.keys c.args.known.now.ids.keys c.loop-need.need-index c.args.needs.now c.need-item.result c.loop-need-test.true (sym c.need-item.is) (sym c.may_be_needed.ensures ∙ c.if-not-may_be_needed.true) c.loop-need.invariant

pub returns-clause-test : goal.returns-clause-test
returns-clause-test c = (needs_are_done c.args.names.now c.loop-need.known.ids.keys c.args.known.now.ids.keys c.loop-need.need-index c.args.needs.now c.loop-need-test.false c.loop-need.invariant).0

pub returns-clause-known : goal.returns-clause-known
returns-clause-known c = λ e. (needs_are_done c.args.names.now c.loop-need.known.ids.keys c.args.known.now.ids.keys c.loop-need.need-index c.args.needs.now c.loop-need-test.false c.loop-need.invariant).1
