use Rattle.std.proofs.Common.{◌+◌, drop}
use Rattle.unit_format.specs.Rules.{bits, no_marks}
use Rattle.unit_format.proofs.SetLaws.{accepts_by-same, accepts_stops}
use Rattle.unit_format.proofs.BodyLaws.{get_or-again}
use Rattle.unit_format.proofs.operators.accepts.Goals as goal

pub loop-op-init : goal.loop-op-init
loop-op-init c = accepts_by-same c.args.names.now c.args.ops.now _ _ _ _ (c.new_declared-declared.ensures.infixes (bits c.args.standard.now)) (c.new_declared-declared.ensures.postfixes no_marks)

pub returns-then-not-branch : goal.returns-then-not-branch
returns-then-not-branch c =
    accepts_stops c.args.names.now _ _ c.args.ops.now c.loop-op.op-index _ _ c.loop-op-test.true (get_or-again c.args.ops.now c.loop-op.op-index _) (c.in_ok-accept.ensures.refused c.if-not-branch.true (drop (c.loop-op.op-index + 1) c.args.ops.now)) c.loop-op.invariant
