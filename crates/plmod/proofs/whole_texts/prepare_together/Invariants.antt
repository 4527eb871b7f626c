use Rattle.std.proofs.Common.{map}
use Rattle.unit_format.specs.Views.{unit_facts}
use Rattle.plmod.proofs.TogetherLaws.{SoFar}
use Rattle.plmod.proofs.whole_texts.prepare_together.Given as goal

abbrev pub invariant-loop-place : goal.invariant-loop-place
invariant-loop-place l = record {
  so_far : SoFar l.texts l.place l.known (map unit_facts l.units.items);
}
