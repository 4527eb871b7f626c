use Rattle.goal_moves.proofs.CopyLaws.{copied_more, copied_none, copied_all}
use Rattle.goal_moves.proofs.collecting.copies_of.Goals as goal

pub loop-term-init : goal.loop-term-init
loop-term-init c = copied_none c.args.store.now.state c.new-places.result.items c.args.terms.now c.new-places.ensures.items

pub loop-term-preserved : goal.loop-term-preserved
loop-term-preserved c =
    copied_more c.args.store.now.state c.loop-term.store.state c.copy_of.new.store.state c.loop-term.places.items c.push.new.list.items c.args.terms.now c.loop-term.term-index c.term-item.result c.in_ok-place.place c.loop-term-test.true c.term-item.is c.loop-term.invariant
    c.in_ok-place.ensures.grows c.in_ok-place.ensures.place c.in_ok-place.ensures.tree c.in_ok-place.ensures.next c.in_ok-push.ensures.ok

pub returns : goal.returns
returns c =
    let h = copied_all c.args.store.now.state c.loop-term.store.state c.loop-term.places.items c.args.terms.now c.loop-term.term-index c.loop-term-test.false c.loop-term.invariant in
    record { grows = h.grows; places = h.refs; trees = h.trees; next = h.next }
