use Rattle.std.proofs.Common.{◌≡◌, take}
use Rattle.std.specs.List.{filter_map}
use Rattle.mod_visible.specs.Clashing.{row_of}
use Rattle.mod_visible.proofs.rows.found_rows.Given as goal

abbrev pub invariant-loop-cause : goal.invariant-loop-cause
invariant-loop-cause l = l.found.items ≡ filter_map (row_of l.names l.modules) (take l.cause-index l.causes)
