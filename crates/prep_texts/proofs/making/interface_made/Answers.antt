use Rattle.std.proofs.Common.{ap, ◌∙◌}
use Rattle.prep_texts.specs.Interfaces.{operators_view}
use Rattle.prep_texts.proofs.MakingLaws.{made-operator, made-other}
use Rattle.prep_texts.proofs.making.interface_made.Goals as goal
use Rattle.prep_texts.proofs.making.interface_made.Goals.{in-Operator+in_ok-from_slice+in_ok-push, in_default}

pub taking-preserved : goal.taking-preserved
taking-preserved c = elim c.match-entry.branch [
  | in-Operator+in_ok-from_slice+in_ok-push w ↦
      ap operators_view w.operators-is
      ∙ made-operator c.args.names.now c.args.entries.now c.taking.entry-index c.entry-item.result c.taking-test.true c.entry-item.is c.taking.operators c.taking.invariant
      w.in-Operator.declared w.in_ok-from_slice.field-0 w.push.new.self w.in-Operator.is (w.in_ok-from_slice.ensures ∙ w.text.ensures) w.in_ok-push.ensures.ok
  | in_default w ↦
      ap operators_view w.operators-is
      ∙ made-other c.args.names.now c.args.entries.now c.taking.entry-index c.entry-item.result c.taking-test.true c.entry-item.is c.taking.operators c.taking.invariant w.in_default.not-Operator
]
