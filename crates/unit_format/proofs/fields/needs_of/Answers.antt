use Rattle.std.proofs.Common.{◌≡◌, ◌++◌, ◌∷◌, [], map}
use Rattle.std.proofs.lemmas.Result.{err_from_is_err_and}
use Rattle.std.proofs.lemmas.List.{map_push}
use Rattle.unit_model.specs.Views.{need_view}
use Rattle.unit_format.specs.Reading.{items_at, need_at}
use Rattle.unit_format.proofs.Loop.{goes_on, ends, is_done}
use Rattle.unit_format.proofs.fields.needs_of.Goals as goal

pub returns-in_err-item : goal.returns-in_err-item
returns-in_err-item c =
    let p = err_from_is_err_and c.from_residual.result c.from_residual.ensures.1 in
    rw (p.1, p.2) (ends need_at c.in_err-item.field-0.0 (map need_view c.loop.items) c.args.count c.loop.counter c.loop.rest.now (items_at need_at c.args.count c.args.bytes.now) c.loop-test.true c.in_err-item.ensures c.loop.invariant)

pub loop-preserved : goal.loop-preserved
loop-preserved c =
    let n = c.in_ok-item.item in
    let e : map need_view c.push.new.self ≡ map need_view c.loop.items ++ need_view n ∷ [] = rw c.in_ok-push.ensures.ok (map_push _ c.loop.items n) in
    rw e (goes_on need_at (map need_view c.loop.items) c.args.count c.loop.counter c.loop.rest.now (need_view c.in_ok-item.item) c.in_ok-item.after.now (items_at need_at c.args.count c.args.bytes.now) c.loop-test.true c.in_ok-item.ensures c.loop.invariant)

pub returns : goal.returns
returns c = is_done need_at (map need_view c.loop.items) c.args.count c.loop.counter c.loop.rest.now (items_at need_at c.args.count c.args.bytes.now) c.loop-test.false c.loop.invariant
