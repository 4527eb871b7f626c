use Rattle.std.proofs.Common.{[]}
use Rattle.unit_order.specs.Numbering.{all_noted, down_from}
use Rattle.unit_order.proofs.Shuffling.{turned_more, turned_whole}
use Rattle.unit_order.proofs.tests.turned.Goals as goal

pub loop-place-preserved : goal.loop-place-preserved
loop-place-preserved c = turned_more c.args.count c.loop-place.place c.loop-place.used c.note.new.self (all_noted [] (down_from c.args.count)) c.loop-place-test.true c.in_ok-note.ensures c.loop-place.invariant

pub returns : goal.returns
returns c = turned_whole c.args.count c.loop-place.place c.loop-place.used (all_noted [] (down_from c.args.count)) c.loop-place-test.false c.loop-place.invariant
