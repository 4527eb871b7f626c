use Rattle.mod_visible.specs.Clashing.{clash_of}
use Rattle.mod_visible.proofs.LoopLaws.{kept_more, kept_all}
use Rattle.mod_visible.proofs.clash.found_clashes.Goals as goal

pub loop-cause-preserved : goal.loop-cause-preserved
loop-cause-preserved c = kept_more (clash_of c.args.names.now c.args.others.now.causes.entries) c.args.causes.now c.loop-cause.cause-index _ c.loop-cause.found.items _ c.loop-cause-test.true c.in_ok-add_clash.ensures c.loop-cause.invariant

pub returns : goal.returns
returns c = kept_all (clash_of c.args.names.now c.args.others.now.causes.entries) c.args.causes.now c.loop-cause.cause-index c.loop-cause.found.items c.loop-cause-test.false c.loop-cause.invariant
