use Rattle.mod_faults.proofs.Taking.{taken, split_start, split_step, split_end}
use Rattle.mod_faults.proofs.split.split.Goals as goal

pub loop-entry-init : goal.loop-entry-init
loop-entry-init c = λ names table. split_start names (taken c.new-bodies.result.defined.procedures.keys c.new-bodies.result.spots.keys) c.args.out.now.items

pub loop-entry-preserved : goal.loop-entry-preserved
loop-entry-preserved c = λ names table.
    split_step names c.args.entries.now c.loop-entry.entry-index _ (taken c.new-bodies.result.defined.procedures.keys c.new-bodies.result.spots.keys) (taken c.loop-entry.bodies.defined.procedures.keys c.loop-entry.bodies.spots.keys)
    (taken c.take.new.self.defined.procedures.keys c.take.new.self.spots.keys) c.args.out.now.items c.loop-entry.out.items c.take.new.out.items c.loop-entry-test.true table (c.loop-entry.invariant names table)
    c.in_ok-take.ensures.procedures c.in_ok-take.ensures.spots c.in_ok-take.ensures.faults

pub returns : goal.returns
returns c = λ names table.
    split_end names c.args.entries.now c.loop-entry.entry-index c.new-bodies.result.defined.procedures.keys c.new-bodies.result.spots.keys (taken c.loop-entry.bodies.defined.procedures.keys c.loop-entry.bodies.spots.keys)
    c.args.out.now.items c.loop-entry.out.items c.loop-entry-test.false c.new-bodies.ensures.procedures c.new-bodies.ensures.spots (c.loop-entry.invariant names table)
