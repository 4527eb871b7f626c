use Rattle.std.proofs.Common.{◌≡◌, take}
use Rattle.std.specs.List.{filter_map}
use Rattle.mod_visible.specs.Clashing.{clash_of}
use Rattle.mod_visible.proofs.clash.found_clashes.Given as goal

abbrev pub invariant-loop-cause : goal.invariant-loop-cause
invariant-loop-cause l = l.found.items ≡ filter_map (clash_of l.names l.others.causes.entries) (take l.cause-index l.causes)
