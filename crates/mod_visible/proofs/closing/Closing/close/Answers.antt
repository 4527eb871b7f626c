use Rattle.std.proofs.Common.{◌<◌, ◌≤◌, length, ap, arith, List, ◌≡◌}
use Rattle.mod_visible.specs.declared.keys.Given.{Given}
use Rattle.mod_visible.specs.Takers.{takers_in}
use Rattle.mod_visible.proofs.SpreadLaws.{closing_start, closing_more, closing_end}
use Rattle.mod_visible.proofs.closing.Closing.close.Goals as goal

pub loop-at-init : goal.loop-at-init
loop-at-init c = closing_start (takers_in c.args.takers.now.links.items) c.args.self.now.found.keys c.args.self.now.causes.items

pub given-given-requires : goal.given-given-requires
given-given-requires c =
    let e : length c.as_slice.result.now ≡ length c.loop-at.self.found.keys = ap (λ (l : List Given). length l) c.as_slice.ensures.keys in
    omega (arith, c.loop-at-test.true, e)

pub loop-at-preserved : goal.loop-at-preserved
loop-at-preserved c =
    let e : length c.as_slice.result.now ≡ length c.loop-at.self.found.keys = ap (λ (l : List Given). length l) c.as_slice.ensures.keys in
    let lt : c.loop-at.at < length c.loop-at.self.found.keys = omega (arith, c.loop-at-test.true, e) in
    closing_more (takers_in c.args.takers.now.links.items) c.args.self.now.found.keys c.args.self.now.causes.items c.loop-at.self.found.keys c.spread_all.new.self.found.keys c.loop-at.self.causes.items c.spread_all.new.self.causes.items c.loop-at.at c.given-given.result lt c.given-given.ensures c.loop-at.invariant c.in_ok-spread_all.ensures

pub returns : goal.returns
returns c =
    let e : length c.as_slice.result.now ≡ length c.loop-at.self.found.keys = ap (λ (l : List Given). length l) c.as_slice.ensures.keys in
    let le : length c.loop-at.self.found.keys ≤ c.loop-at.at = omega (arith, c.loop-at-test.false, e) in
    closing_end (takers_in c.args.takers.now.links.items) c.args.self.now.found.keys c.args.self.now.causes.items c.loop-at.self.found.keys c.loop-at.self.causes.items c.loop-at.at le c.loop-at.invariant
