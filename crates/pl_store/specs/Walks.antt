-- The clauses of a procedure from a place on, and which of them a goal of a key may resolve by.
use Rattle.std.specs.Prelude.{◌≡◌, ℕ, ◌+◌, ◌<◌, ◌≤◌, List, ◌∷◌, ◌++◌, length, map, filter, drop, nat_eq, Bool, true, false, Option, None, Some, slice_index_or}
use Rattle.std.specs.List.{list_any}
use Rattle.unit_model.specs.Facts.{Indicator}
use Rattle.goal_model.specs.Program.{Clause}
use Rattle.goal_model.specs.Choices.{Key, fits}
use Rattle.pl_store.specs.Linked.{Linked, StoredClause, no_clause, procedure_at, visible_in, may_match}
use Rattle.pl_store.specs.Places.{next_place}
use Rattle.pl_store.specs.Facts.{IsLinked}
use Rattle.pl_store.specs.Runs.{program_of}

abbrev pub clauses_of : ℕ → List StoredClause → List (Clause ℕ)
clauses_of p cs = map (λ c. c.clause) (filter (λ c. nat_eq p c.procedure) cs)

-- the clauses of a procedure among those from a place on
abbrev pub clauses_from_place : List StoredClause → ℕ → ℕ → List (Clause ℕ)
clauses_from_place cs p k = clauses_of p (drop k cs)

abbrev pub any_fits : Key ℕ → List (Clause ℕ) → Bool
any_fits key = list_any (λ c. fits nat_eq key c.head)

abbrev pub clause_of : List StoredClause → ℕ → Clause ℕ
clause_of cs i = (slice_index_or cs i no_clause).clause

-- from place k on, some clauses of the procedure that do not fit, and then the one at place i, which fits
pub record StopsAt (cs : List StoredClause) (p : ℕ) (key : Key ℕ) (k i : ℕ) : Type 0 where
  pub skipped : List (Clause ℕ)
  pub from : k ≤ i
  pub within : i < length cs
  pub split : clauses_from_place cs p k ≡ skipped ++ clause_of cs i ∷ clauses_from_place cs p (i + 1)
  pub unfit : any_fits key skipped ≡ false
  pub fit : fits nat_eq key (clause_of cs i).head ≡ true

-- none from place k on fits, or some place is the first one that does
abbrev pub Stops : List StoredClause → ℕ → Key ℕ → ℕ → Option ℕ → Type 0
Stops cs p key k None = any_fits key (clauses_from_place cs p k) ≡ false
Stops cs p key k (Some i) = StopsAt cs p key k i

abbrev pub WalksClauses : Type 0
WalksClauses = (cs : List StoredClause) (p : ℕ) (key : Key ℕ) (k : ℕ) → Stops cs p key k (next_place (may_match p key) k cs)

-- its module, name and number of arguments give a search its clauses, which are those from the first place on, and its modes
pub record IsFound (l : Linked) (p : ℕ) : Type 0 where
  pub clauses : (program_of l).clauses (procedure_at l p).home (procedure_at l p).indicator ≡ clauses_from_place l.clauses p 0
  pub modes : (program_of l).modes (procedure_at l p).home (procedure_at l p).indicator ≡ (procedure_at l p).modes

abbrev pub ProceduresFound : Type 0
ProceduresFound = (l : Linked) (p : ℕ) → IsLinked l → p < length l.procedures → IsFound l p

-- what is visible under a name and a number of arguments is a procedure with these
abbrev pub VisibleThere : Type 0
VisibleThere = (l : Linked) (m : ℕ) (i : Indicator ℕ) (p : ℕ) → IsLinked l → visible_in l.rows m i ≡ Some p
    → (p < length l.procedures) × ((procedure_at l p).indicator ≡ i)
