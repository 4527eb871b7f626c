use Rattle.std.proofs.Common.{◌≡◌, map, drop, ◌≤◌, length}
use Rattle.std.specs.Option.{option_map}
use Rattle.link_model.specs.Faults.{least}
use Rattle.mod_faults.specs.Views.{fault_view}
use Rattle.mod_faults.proofs.least.least.Given as goal

abbrev pub invariant-loop-rest : goal.invariant-loop-rest
invariant-loop-rest l = record {
  within : l.rest ≤ length l.faults;
  found_is : option_map fault_view l.found ≡ least (map fault_view (drop l.rest l.faults));
}

abbrev pub decreases-loop-rest : goal.decreases-loop-rest
decreases-loop-rest l = l.rest
