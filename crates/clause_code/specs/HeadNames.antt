-- The names in a store after a head was taken.
use Rattle.std.specs.Prelude.{ℕ}
use Rattle.pl_terms.specs.Trees.{Tree}
use Rattle.pl_terms.specs.NameBounds.{NamesBelow}
use Rattle.pl_unify.specs.declared.word.Ref.{Ref}
use Rattle.pl_unify.specs.State.{State, IsRef, tree_at, tree_of_var, bound}
use Rattle.clause_code.specs.Heads.{Took}
use Rattle.clause_code.specs.Names.{BoundNamed}

-- names below a limit stay below it
pub record NamesStay (limit : ℕ) (old new : State) : Type 0 where
  pub bindings : BoundNamed limit (bound old) → BoundNamed limit (bound new)
  pub places : (r : Ref) → IsRef old r → NamesBelow limit (tree_at old r) → NamesBelow limit (tree_at new r)
  pub variables : (n : ℕ) → NamesBelow limit (tree_of_var old n) → NamesBelow limit (tree_of_var new n)

-- where the goal and the head have no others
abbrev pub TookNamed : Type 0
TookNamed = (limit : ℕ) (old new : State) (goal head : Tree ℕ) (width : ℕ) → Took old new goal head width → NamesBelow limit goal → NamesBelow limit head → NamesStay limit old new
