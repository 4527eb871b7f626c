use Rattle.std.proofs.Common.{map, take}
use Rattle.unit_format.specs.Views.{unit_facts}
use Rattle.plmod.specs.Prepares.{AreUnits}
use Rattle.plmod.proofs.link.decode_all.Given as goal

abbrev pub invariant-loop-place : goal.invariant-loop-place
invariant-loop-place l = record {
  so_far : AreUnits (take l.place l.contents) (map unit_facts l.units.items);
}
