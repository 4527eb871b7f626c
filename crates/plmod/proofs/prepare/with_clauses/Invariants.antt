use Rattle.std.proofs.Common.{◌≡◌, ◌+◌, take}
use Rattle.unit_model.specs.Views.{entries_view}
use Rattle.plmod.specs.Prepares.{clauses_in_entries}
use Rattle.plmod.proofs.prepare.with_clauses.Given as goal

abbrev pub invariant-loop-entry : goal.invariant-loop-entry
invariant-loop-entry l = record {
  so_far : l.total ≡ l.count + clauses_in_entries (entries_view (take l.entry-index l.entries));
}
