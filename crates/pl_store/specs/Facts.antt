-- What holds of each linked program.
use Rattle.std.specs.Prelude.{◌≡◌, ℕ, ◌<◌, List, length, slice_index_or}
use Rattle.pl_atoms.specs.Names.{AreDistinct, IsFront}
use Rattle.pl_store.specs.Linked.{Linked, Procedure, StoredClause, Row, no_procedure, no_clause, procedure_at, with_names}
use Rattle.pl_store.specs.Rules.{IsExisting, HasArity, IsClauseOf}

-- of each item; `d` stands past the end of the list
abbrev pub EachAt : {X : Type 0} → (X → Type 0) → X → List X → Type 0
EachAt P d xs = (i : ℕ) → i < length xs → P (slice_index_or xs i d)

-- no two items are alike
abbrev pub AreApart : {X : Type 0} → (X → X → Type 0) → X → List X → Type 0
AreApart Alike d xs = (i j : ℕ) → i < length xs → j < length xs → Alike (slice_index_or xs i d) (slice_index_or xs j d) → i ≡ j

-- stands past the end of the rows
abbrev pub no_row : Row
no_row = record { lookup = 0; indicator = record { name = 0; arity = 0 }; procedure = 0 }

-- the same module, name and number of arguments
abbrev pub SameProcedure : Procedure → Procedure → Type 0
SameProcedure p q = (p.home ≡ q.home) × (p.indicator ≡ q.indicator)

abbrev pub SameLookup : Row → Row → Type 0
SameLookup r s = (r.lookup ≡ s.lookup) × (r.indicator ≡ s.indicator)

pub record IsDefined (l : Linked) (p : Procedure) : Type 0 where
  pub home : IsExisting l p.home
  pub name : p.indicator.name < length l.names
  pub modes : HasArity p.indicator.arity p.modes

pub record IsEntered (l : Linked) (c : StoredClause) : Type 0 where
  pub procedure : c.procedure < length l.procedures
  pub clause : IsClauseOf l c.procedure c.clause

pub record IsVisible (l : Linked) (r : Row) : Type 0 where
  pub lookup : IsExisting l r.lookup
  pub procedure : r.procedure < length l.procedures
  pub indicator : (procedure_at l r.procedure).indicator ≡ r.indicator

pub record IsLinked (l : Linked) : Type 0 where
  pub names : AreDistinct l.names
  pub modules : EachAt (λ m. m < length l.names) 0 l.modules
  pub procedures : EachAt (IsDefined l) no_procedure l.procedures
  pub apart : AreApart SameProcedure no_procedure l.procedures
  pub clauses : EachAt (IsEntered l) no_clause l.clauses
  pub rows : EachAt (IsVisible l) no_row l.rows
  pub single : AreApart SameLookup no_row l.rows

-- a program stays in order where its names only grow
abbrev pub FactsStay : Type 0
FactsStay = (l : Linked) (names : List (List ℕ)) → IsLinked l → IsFront l.names names → AreDistinct names → IsLinked (with_names l names)
