use Rattle.std.proofs.Common.{map, ap, Err}
use Rattle.unit_format.specs.Views.{unit_facts}
use Rattle.plmod.proofs.TogetherLaws.{none_yet, one_further, first_faulty, all_done}
use Rattle.plmod.proofs.whole_texts.prepare_together.Goals as goal

pub loop-place-init : goal.loop-place-init
loop-place-init c = record { so_far = none_yet c.args.texts.now c.new-known.result c.new-units.result.items c.new-known.ensures c.new-units.ensures.items }

pub loop-place-preserved : goal.loop-place-preserved
loop-place-preserved c = record {
  so_far = rw (c.in_ok-add-in-Ok.ensures.ok, c.in_ok-push-in-Ok.ensures.items)
      (one_further c.args.texts.now c.loop-place.place c.index-texts-place.result c.loop-place.known c.loop-place.units.items c.in-Ok.unit
      c.loop-place-test.true c.index-texts-place.is (rw c.as_slice.ensures at c.in-Ok.ensures.ok) c.loop-place.invariant.so_far);
}

pub returns-in-Err-Fault : goal.returns-in-Err-Fault
returns-in-Err-Fault c =
    let first = c.in-Err-Fault.ensures.fault c.in-Err-Fault.number c.in-Err-Fault.byte (ap Err c.in-Err-Fault.field-0-is) in
    rw c.in-Err-Fault.field-0-is
    (first_faulty c.args.texts.now c.loop-place.place c.index-texts-place.result c.loop-place.known (map unit_facts c.loop-place.units.items) c.in-Err-Fault.number c.in-Err-Fault.byte
    c.loop-place-test.true c.index-texts-place.is (rw c.as_slice.ensures at first) c.loop-place.invariant.so_far)

pub returns : goal.returns
returns c = all_done c.args.texts.now c.loop-place.place c.loop-place.known (map unit_facts c.loop-place.units.items) c.loop-place-test.false c.loop-place.invariant.so_far
