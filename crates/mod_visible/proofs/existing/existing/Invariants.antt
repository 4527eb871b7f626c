use Rattle.std.proofs.Common.{◌≡◌, take}
use Rattle.pl_atoms.specs.Names.{with_texts}
use Rattle.mod_visible.specs.Existing.{unit_interfaces, always}
use Rattle.mod_visible.proofs.existing.existing.Given as goal

abbrev pub invariant-loop-unit : goal.invariant-loop-unit
invariant-loop-unit l = l.modules ≡ with_texts always (unit_interfaces (take l.unit-index l.units))
