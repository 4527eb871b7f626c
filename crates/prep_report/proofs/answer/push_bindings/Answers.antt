use Rattle.std.proofs.Common.{ap, ◌∙◌, true, if◌then◌else◌}
use Rattle.pl_ops.specs.Tables.{operator}
use Rattle.prep_report.specs.Lines.{is_shown}
use Rattle.prep_report.proofs.Bindings.{binding-step}
use Rattle.prep_report.proofs.answer.push_bindings.Goals as goal

pub loop-binding-preserved : goal.loop-binding-preserved
loop-binding-preserved c =
    binding-step (operator c.args.table.now) c.args.names.now _ c.loop-binding.line c.push_next.new.line c.args.bindings.now c.loop-binding.binding-index c.loop-binding.some c.some_with-some.result c.binding-item.result
    c.loop-binding-test.true c.binding-item.is c.loop-binding.invariant c.in_ok-push_next.ensures
    (c.some_with-some.ensures ∙ ap (λ b. if b then true else c.loop-binding.some) (c.is_shown.ensures ∙ ap is_shown c.as_slice.ensures))
