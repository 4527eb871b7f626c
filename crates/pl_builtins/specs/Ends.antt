-- Calls of built-in predicates by the numbers of their rows.
use Rattle.std.specs.Prelude.{◌≡◌, ℕ, List, [], Option, Some, None, slice_index_or}
use Rattle.pl_atoms.specs.CaseTable.{Case}
use Rattle.pl_atoms.specs.Names.{IsFront}
use Rattle.pl_terms.specs.Trees.{Tree}
use Rattle.unit_model.specs.Builtins.{builtins}
use Rattle.pl_unify.specs.declared.word.Ref.{Ref}
use Rattle.pl_unify.specs.State.{State, tree_at, IsRef, Grows}
use Rattle.builtin_model.specs.declared.row.Row.{Row}
use Rattle.builtin_model.specs.Naming.{Naming, by_numbers, number_in}
use Rattle.builtin_model.specs.Faults.{Fault, fault_tree}
use Rattle.builtin_model.specs.Deeds.{Deed, deed, no, raise, halt}
use Rattle.builtin_model.specs.Output.{output}
use Rattle.pl_builtin_ends.specs.Meets.{Succeeds, Fails}
use Rattle.pl_builtins.specs.declared.numbered.Outcome.{Outcome}
use Rattle.pl_builtins.specs.declared.numbered.Outcome.TheVariants as O

-- what a row does; a number that has none fails
abbrev pub deed_of : {N : Type 0} → Naming N → Option Row → List (Tree N) → N → ℕ → Deed N
deed_of n None args caller next = no
deed_of n (Some row) args caller next = deed n row args caller next

abbrev pub output_of : {N : Type 0} → Naming N → Option Row → List (Tree N) → List ℕ
output_of n None args = []
output_of n (Some row) args = output n row args

-- the row in the table of built-in procedures
abbrev pub row_at : ℕ → Case
row_at k = slice_index_or builtins k (record { name = []; arity = 0; value = 0 })

-- The deed of a row, by the names as they were when it was done, is an error, and its term with the row's own name and number of
-- arguments stands at a place. Nothing but places was added.
pub record Throws (old new : State) (names more : List (List ℕ)) (deed : List (List ℕ) → Deed ℕ) (k : ℕ) (at : Ref) : Type 0 where
  pub done : List (List ℕ)
  pub before : IsFront names done
  pub after : IsFront done more
  pub fault : Fault ℕ
  pub raised : raise fault ≡ deed done
  pub grows : Grows old new
  pub next : new.next ≡ old.next
  pub place : IsRef new at
  pub tree : tree_at new at ≡ fault_tree (by_numbers more) fault (number_in more (row_at k).name) (row_at k).arity

-- how a call ends: the store is as before where it fails or ends the run
abbrev pub Ends : State → State → List (List ℕ) → List (List ℕ) → (List (List ℕ) → Deed ℕ) → ℕ → Outcome → Type 0
Ends old new names more deed k O.Yes = Succeeds old new (deed more)
Ends old new names more deed k O.No = (new ≡ old) × Fails (deed more)
Ends old new names more deed k (O.Error at) = Throws old new names more deed k at
Ends old new names more deed k (O.Halt z) = (new ≡ old) × (halt z ≡ deed more)

-- what a call writes: an error nothing
abbrev pub written_by : List ℕ → Outcome → List ℕ
written_by bytes (O.Error at) = []
written_by bytes o = bytes
