use Rattle.std.proofs.Common.{map, take}
use Rattle.unit_format.specs.Views.{unit_facts}
use Rattle.mod_visible.specs.Placing.{IsFlat}
use Rattle.mod_visible.proofs.flat.flattened.Given as goal

abbrev pub invariant-loop-number : goal.invariant-loop-number
invariant-loop-number l = IsFlat l.names l.entries.items (map unit_facts (take l.number l.units))
