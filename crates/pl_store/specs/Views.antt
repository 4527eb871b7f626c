-- How the fields of a program stand for a linked program.
use Rattle.std.specs.Prelude.{◌≡◌, ℕ, List, map, length, Option, None, Some}
use Rattle.unit_model.specs.Views.{ind_view}
use Rattle.pl_store.specs.Linked.{Linked, Procedure as Defined, StoredClause, Row}
use Rattle.pl_store.specs.Tags.{Indexed, head_class}
use Rattle.pl_store.specs.declared.index.Class.{Class}
use Rattle.pl_store.specs.declared.index.Class.TheVariants as C
use Rattle.pl_store.specs.declared.index.Tag.{Tag}
use Rattle.pl_store.specs.declared.key.Key.{Key}
use Rattle.pl_store.specs.declared.key.Key.TheVariants as K
use Rattle.pl_store.specs.declared.tables.Procedure.{Procedure}
use Rattle.pl_store.specs.declared.tables.Clause.{Clause}
use Rattle.pl_store.specs.declared.tables.RowKey.{RowKey}

abbrev pub procedure_view : Procedure → Defined
procedure_view p = record { home = p.home.0; indicator = ind_view p.ind; modes = p.modes }

abbrev pub clause_view : Clause → StoredClause
clause_view c = record { procedure = c.proc.0; clause = record { width = c.vars; head = c.head; body = c.body } }

abbrev pub row_view : RowKey × ℕ → Row
row_view r = record { lookup = r.0.lookup; indicator = record { name = r.0.name; arity = r.0.arity }; procedure = r.1 }

abbrev pub tag_view : Clause → Tag
tag_view c = record { owner = c.proc.0; class = head_class c.head }

abbrev pub view_of : List (List ℕ) → List ℕ → List Procedure → List Clause → List (RowKey × ℕ) → Linked
view_of names modules procedures clauses rows = record {
  names = names;
  modules = modules;
  procedures = map procedure_view procedures;
  clauses = map clause_view clauses;
  rows = map row_view rows;
}

-- the index is that of the procedures and clauses
pub record IsIndexed (procedures : List Procedure) (clauses : List Clause) (x : Indexed) : Type 0 where
  pub owners : x.owners ≡ length procedures
  pub tags : x.tags ≡ map tag_view clauses

-- the class that a key asks for
abbrev pub key_class : Key → Option Class
key_class K.Any = None
key_class (K.Int z) = Some (C.Int z)
key_class (K.Name s) = Some (C.Name s.0)
key_class (K.Comp s k) = Some (C.Comp s.0 k)
