use Rattle.std.proofs.Common.{[], List, map, sym, subst}
use Rattle.unit_format.specs.Views.{unit_facts}
use Rattle.unit_format.specs.declared.unit.Unit.{Unit as ReadUnit}
use Rattle.plmod.specs.Prepares.{AreUnits, no_files}
use Rattle.plmod.proofs.Tellings.{decoded_more}
use Rattle.plmod.proofs.link.decode_all.Goals as goal

pub loop-place-init : goal.loop-place-init
loop-place-init c = record { so_far = subst (λ (us : List ReadUnit). AreUnits [] (map unit_facts us)) (sym c.new-units.ensures.items) no_files }

pub loop-place-preserved : goal.loop-place-preserved
loop-place-preserved c = record {
  so_far = rw c.in_ok-push-in-Ok.ensures.items
      (decoded_more c.args.contents.now c.loop-place.place c.index-contents-place.result c.loop-place.units.items c.in-Ok.unit
      c.loop-place-test.true c.index-contents-place.is (rw c.as_slice.ensures at c.in-Ok.ensures.found) c.loop-place.invariant.so_far);
}
