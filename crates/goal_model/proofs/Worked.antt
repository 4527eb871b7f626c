-- Small programs and goals, for worked runs.
use Rattle.std.specs.Prelude.{ℕ, pos, List, [], ◌∷◌, codes, nat_eq, Bool, ◌&&◌, Option, Some, None, if◌then◌else◌}
use Rattle.std.specs.List.{list_any}
use Rattle.pl_terms.specs.Trees.{Tree, int, atom, comp, nil, cons}
use Rattle.unit_model.specs.Facts.{Indicator}
use Rattle.solver_model.specs.Search.{Event, End, Outcome}
use Rattle.builtin_model.specs.Naming.{Naming, by_numbers}
use Rattle.goal_model.specs.Program.{Clause, Clauses, Program}
use Rattle.goal_model.specs.Run.{run_of}

abbrev pub table : List (List ℕ)
table =
    codes "user" ∷ codes "," ∷ codes ";" ∷ codes "->" ∷ codes ":" ∷ codes "@" ∷ codes "!" ∷ codes "call" ∷ codes "\\+" ∷ codes "once" ∷ codes "catch"
    ∷ codes "throw" ∷ codes "findall" ∷ codes "repeat" ∷ codes "true" ∷ codes "fail" ∷ codes "=" ∷ codes "-" ∷ codes "/" ∷ codes "[]" ∷ codes "." ∷ codes "write"
    ∷ codes "var" ∷ codes "error" ∷ codes "instantiation_error" ∷ codes "type_error" ∷ codes "existence_error" ∷ codes "callable" ∷ codes "procedure"
    ∷ codes "module" ∷ codes "m" ∷ codes "n" ∷ codes "p" ∷ codes "a" ∷ codes "f" ∷ codes "g" ∷ codes "x" ∷ codes "y" ∷ codes "twice" ∷ codes "oops" ∷ codes "nomod"
    ∷ codes "halt" ∷ codes "k" ∷ codes "who" ∷ codes "whom" ∷ codes "calling_context" ∷ codes "member" ∷ codes "b" ∷ codes "c" ∷ codes "d" ∷ []

-- names are places of this table
abbrev pub n : Naming ℕ
n = by_numbers table

abbrev pub at : List ℕ → Tree ℕ
at s = atom (n.name s)

abbrev pub num : ℕ → Tree ℕ
num k = int (pos k)

abbrev pub one : List ℕ → Tree ℕ → Tree ℕ
one s t = comp (n.name s) (cons t nil)

abbrev pub two : List ℕ → Tree ℕ → Tree ℕ → Tree ℕ
two s t u = comp (n.name s) (cons t (cons u nil))

abbrev pub three : List ℕ → Tree ℕ → Tree ℕ → Tree ℕ → Tree ℕ
three s t u v = comp (n.name s) (cons t (cons u (cons v nil)))

abbrev pub both : Tree ℕ → Tree ℕ → Tree ℕ
both = two (codes ",")

-- a procedure of a module, which is seen in some modules
pub record Procedure : Type 0 where
  pub of : ℕ
  pub indicator : Indicator ℕ
  pub seen_in : List ℕ
  pub modes : Option (List Bool)
  pub clauses : List (Clause ℕ)

abbrev pub is_for : Indicator ℕ → Procedure → Bool
is_for i q = nat_eq q.indicator.name i.name && nat_eq q.indicator.arity i.arity

abbrev pub definer : List Procedure → ℕ → Indicator ℕ → Option ℕ
definer [] m i = None
definer (q ∷ qs) m i = if is_for i q && list_any (nat_eq m) q.seen_in then Some q.of else definer qs m i

abbrev pub modes_in : List Procedure → ℕ → Indicator ℕ → Option (List Bool)
modes_in [] d i = None
modes_in (q ∷ qs) d i = if is_for i q && nat_eq d q.of then q.modes else modes_in qs d i

abbrev pub clauses_in : List Procedure → Clauses ℕ
clauses_in [] d i = []
clauses_in (q ∷ qs) d i = if is_for i q && nat_eq d q.of then q.clauses else clauses_in qs d i

abbrev pub program : List (List ℕ) → List Procedure → Program ℕ
program modules qs = record {
  exists = λ m. list_any (λ s. nat_eq m (n.name s)) modules;
  visible = definer qs;
  modes = modes_in qs;
  clauses = clauses_in qs;
}

abbrev pub clause : ℕ → Tree ℕ → Tree ℕ → (Clause ℕ)
clause width head body = record { width = width; head = head; body = body }

abbrev pub fact : Tree ℕ → (Clause ℕ)
fact head = clause 0 head (at (codes "true"))

-- a procedure of user, which user sees
abbrev pub own : List ℕ → ℕ → List (Clause ℕ) → Procedure
own s k cs = record { of = n.name (codes "user"); indicator = record { name = n.name s; arity = k }; seen_in = n.name (codes "user") ∷ []; modes = None; clauses = cs }

abbrev pub empty : Program ℕ
empty = program (codes "user" ∷ []) []

-- what a run shows, the steps left, and how it ends
pub record Shown : Type 0 where
  pub events : List (Event (List (Tree ℕ)))
  pub left : ℕ
  pub ended : End (Tree ℕ)

abbrev pub run : Program ℕ → Tree ℕ → ℕ → Shown
run p t budget = let r : Outcome (List (Tree ℕ)) (Tree ℕ) (Clauses ℕ) = run_of n nat_eq p t budget in record { events = r.events; left = r.left; ended = r.ended }

abbrev pub shows : List (Event (List (Tree ℕ))) → ℕ → End (Tree ℕ) → Shown
shows events left end = record { events = events; left = left; ended = end }
