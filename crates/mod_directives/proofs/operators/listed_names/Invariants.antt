use Rattle.std.proofs.Common.{◌≡◌, ◌<◌, All, length, Some}
use Rattle.pl_terms.specs.Order.{text_of}
use Rattle.pl_terms.specs.NameBounds.{AllNamesBelow}
use Rattle.pl_atoms.specs.declared.names.NameId.{NameId}
use Rattle.unit_model.specs.Directives.{both}
use Rattle.term_walk.specs.Walks.{size}
use Rattle.mod_directives.specs.Operators.{texts}
use Rattle.mod_directives.proofs.Naming.{named}
use Rattle.mod_directives.proofs.operators.listed_names.Given as goal

abbrev pub invariant-items : goal.invariant-items
invariant-items l = record {
  found : both (Some (texts (text_of l.names) l.found)) (named (text_of l.names) l.list) ≡ both (Some (texts (text_of l.names) l.initial.found)) (named (text_of l.names) l.initial.list);
  below : AllNamesBelow (length l.names) l.list;
  bound : All (λ (id : NameId). id.0 < length l.names) l.found;
}

abbrev pub decreases-items : goal.decreases-items
decreases-items l = size l.list
