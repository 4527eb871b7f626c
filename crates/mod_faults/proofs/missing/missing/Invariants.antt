use Rattle.std.proofs.Common.{◌≡◌, ◌++◌, List, take}
use Rattle.std.specs.List.{flat_map}
use Rattle.unit_model.specs.Facts.{Facts}
use Rattle.unit_model.specs.Directives.{Text}
use Rattle.link_model.specs.Places.{places_of}
use Rattle.mod_visible.specs.Visibility.{IsVisibility}
use Rattle.mod_faults.specs.Missing.{missing_by}
use Rattle.mod_faults.proofs.missing.missing.Given as goal

abbrev pub invariant-loop-entry : goal.invariant-loop-entry
invariant-loop-entry l = (units : List (Facts Text)) → IsVisibility units l.visibility → l.out.items ≡ l.initial.out.items ++ flat_map (missing_by l.flat.names l.defined.procedures.keys (places_of 0 units)) (take l.entry-index l.entry-items)
