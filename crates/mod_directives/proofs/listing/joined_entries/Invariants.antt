use Rattle.std.proofs.Common.{◌≡◌, length, Some}
use Rattle.pl_terms.specs.NameBounds.{AllNamesBelow}
use Rattle.unit_model.specs.Directives.{both}
use Rattle.unit_model.specs.Views.{entries_view}
use Rattle.unit_model.specs.Entries.{EntriesBelow, entries_in}
use Rattle.term_walk.specs.Walks.{size}
use Rattle.mod_directives.proofs.Reading.{rest}
use Rattle.mod_directives.proofs.listing.joined_entries.Given as goal

abbrev pub invariant-loop-list : goal.invariant-loop-list
invariant-loop-list l = record {
  entries : both (Some (entries_in l.names l.entries)) (rest l.names l.item l.byte l.list) ≡ both (Some (entries_in l.names l.initial.entries)) (rest l.names l.item l.byte l.initial.list);
  below : AllNamesBelow (length l.names) l.list;
  bound : EntriesBelow (length l.names) (entries_view l.entries);
}

abbrev pub decreases-loop-list : goal.decreases-loop-list
decreases-loop-list l = size l.list
