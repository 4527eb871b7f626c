-- Programs that get procedures and clauses.
use Rattle.std.specs.Prelude.{◌≡◌, ℕ, ◌<◌, List, ◌++◌, length, map, fold, nat_eq, Bool, ◌&&◌, Option, Some}
use Rattle.std.specs.List.{filter_map}
use Rattle.std.specs.Map.{lookup}
use Rattle.unit_model.specs.Facts.{Indicator}
use Rattle.link_model.specs.Places.{role_of}
use Rattle.pl_store.specs.Linked.{Linked, Procedure, same_indicator, procedure_at}
use Rattle.pl_store.specs.Runs.{number_of, clauses_from}
use Rattle.program_model.specs.Saying.{Said, clauses_said, modes_said}
use Rattle.mod_linker.specs.declared.key.Key.{Key}
use Rattle.mod_linker.specs.Keys.{same_key, AreKnown, AreDeclared}
use Rattle.mod_linker.specs.Counting.{with_one, Defined, defined_in}

-- ---- procedures with their modules

abbrev pub defined : Procedure → Defined ℕ
defined p = (p.home, p.indicator)

abbrev pub same_numbers : Defined ℕ → Defined ℕ → Bool
same_numbers x y = nat_eq x.0 y.0 && same_indicator x.1 y.1

-- the procedure of an entry that is a clause
abbrev pub defined_said : {N : Type 0} → Said N → Option (Defined N)
defined_said x = defined_in x.of (role_of x.what)

-- ---- entries in turn

-- after some of all entries, the clauses are those of these entries, and procedures have the last modes of all
pub record Enters (all done : List (Said ℕ)) (l : Linked) : Type 0 where
  pub clauses : (d : ℕ) (i : Indicator ℕ) → clauses_from l (number_of l d i) ≡ clauses_said nat_eq done d i
  pub modes : (p : ℕ) → p < length l.procedures → (procedure_at l p).modes ≡ modes_said nat_eq all (procedure_at l p).home (procedure_at l p).indicator

-- modes are of the arity of their procedure
abbrev pub HaveArity : List (Key × List Bool) → Type 0
HaveArity table = (k : Key) (modes : List Bool) → lookup (same_key k) table ≡ Some modes → length modes ≡ k.arity

-- all but procedures and clauses is the same
pub record Keeps (l m : Linked) : Type 0 where
  pub names : m.names ≡ l.names
  pub modules : m.modules ≡ l.modules
  pub rows : m.rows ≡ l.rows

-- p is the number of this procedure, which is new or was there
pub record Provides (home : ℕ) (i : Indicator ℕ) (table : List (Key × List Bool)) (p : ℕ) (l m : Linked) (numbers : List (Key × ℕ)) : Type 0 where
  pub keeps : Keeps l m
  pub within : p < length m.procedures
  pub home_is : home ≡ (procedure_at m p).home
  pub indicator : i ≡ (procedure_at m p).indicator
  pub known : AreKnown m numbers
  pub procedures : map defined m.procedures ≡ with_one same_numbers (map defined l.procedures) (home, i)
  pub enters : (all done : List (Said ℕ)) → AreDeclared all table → Enters all done l → Enters all done m

-- the program has got these entries too
pub record Takes (xs : List (Said ℕ)) (table : List (Key × List Bool)) (l m : Linked) (numbers : List (Key × ℕ)) : Type 0 where
  pub keeps : Keeps l m
  pub known : AreKnown m numbers
  pub procedures : map defined m.procedures ≡ fold (with_one same_numbers) (map defined l.procedures) (filter_map defined_said xs)
  pub enters : (all done : List (Said ℕ)) → AreDeclared all table → Enters all done l → Enters all (done ++ xs) m
