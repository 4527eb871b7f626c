use Rattle.std.proofs.Common.{[]}
use Rattle.unit_format.specs.Views.{unit_facts}
use Rattle.plmod.specs.Prepares.{no_files}
use Rattle.plmod.proofs.Units.{gathered_more}
use Rattle.plmod.proofs.prepare.gather.Goals as goal

pub loop-place-init : goal.loop-place-init
loop-place-init c = record { so_far = record { facts = []; are = no_files; know = c.new-known.ensures } }

pub loop-place-preserved : goal.loop-place-preserved
loop-place-preserved c = record {
  so_far = rw c.in_ok-add-in-Ok.ensures.ok
      (gathered_more c.args.contents.now c.loop-place.place c.loop-place.known c.index-contents-place.result (unit_facts c.in-Ok.unit)
      c.loop-place-test.true c.index-contents-place.is (rw c.as_slice.ensures at c.in-Ok.ensures.found) c.loop-place.invariant.so_far);
}
