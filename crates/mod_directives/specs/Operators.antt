-- Declaring operators of names in turn.
use Rattle.std.specs.Prelude.{◌≡◌, ℕ, ◌++◌, List, map, None}
use Rattle.pl_atoms.specs.declared.names.NameId.{NameId}
use Rattle.pl_terms.specs.Order.{text_of}
use Rattle.pl_ops.specs.Tables.{Declaration, operator}
use Rattle.pl_ops.specs.Refusals.{refusal, declared}
use Rattle.unit_model.specs.declared.facts.Entry.{Entry as CodeEntry}
use Rattle.unit_model.specs.Preparing.{operator_entries, operator_of, entries_at}
use Rattle.unit_model.specs.Entries.{entries_in}
use Rattle.mod_directives.specs.declared.operators.Declared.{Declared}

abbrev pub texts : (ℕ → List ℕ) → List NameId → List (List ℕ)
texts f = map (λ id. f id.0)

-- an operator of this name is accepted, declared, and among the entries where it makes one
pub record IsDeclared (names : List (List ℕ)) (d : Declared) (name : NameId) (old new : List Declaration) (es fs : List CodeEntry) : Type 0 where
  pub free : refusal (operator old) d.priority d.kind.now (text_of names name.0) ≡ None
  pub operators : operator new ≡ operator (old ++ declared d.priority d.kind.now (text_of names name.0))
  pub entries : entries_in names fs ≡ entries_in names es ++ entries_at d.byte (operator_entries d.is_entry (map operator_of (declared d.priority d.kind.now (text_of names name.0))))
