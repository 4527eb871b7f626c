-- A goal that takes a clause's head.
use Rattle.std.specs.Prelude.{◌≡◌, ℕ, ◌+◌, ◌≤◌, List, [], ◌∷◌, ◌++◌, Some}
use Rattle.pl_terms.specs.Trees.{Tree}
use Rattle.unifier_model.specs.Substitution.{apply, raise}
use Rattle.unifier_model.specs.Mgu.{mgu}
use Rattle.pl_unify.specs.declared.word.Ref.{Ref}
use Rattle.pl_unify.specs.declared.word.View.{View}
use Rattle.pl_unify.specs.declared.word.View.TheVariants.{Var, Int, Name, Comp}
use Rattle.pl_unify.specs.State.{State, IsStore, IsRef, Extends, tree_at, tree_of_var, bound}

-- an atom or a compound
abbrev pub IsNamed : View → Type 0
IsNamed (Var n) = ⊥
IsNamed (Int z) = ⊥
IsNamed (Name a) = Unit {0}
IsNamed (Comp f k) = Unit {0}

-- the most general unifier of the goal and the head was applied to all, where the head's variables, which are numbers
-- below the width, are new ones
pub record Took (old new : State) (goal head : Tree ℕ) (width : ℕ) : Type 0 where
  pub extends : Extends old new
  pub store : IsStore new
  pub next : new.next ≡ old.next + width
  pub unifier : List (ℕ × Tree ℕ)
  pub solved : mgu ((goal, raise old.next head) ∷ []) ≡ Some unifier
  -- what other terms of the clause become, with its variables numbered as the head's
  pub clause_terms : (t : Tree ℕ) → apply (bound new) (raise old.next t) ≡ apply unifier (raise old.next t)
  pub bound : bound new ≡ bound old ++ unifier
  pub places : (r : Ref) → IsRef old r → tree_at new r ≡ apply unifier (tree_at old r)
  pub variables : (n : ℕ) → tree_of_var new n ≡ apply unifier (tree_of_var old n)

-- the bindings of a store leave a tree of new variables as it is
abbrev pub NewTermsStay : Type 0
NewTermsStay = (s : State) → IsStore s → (base : ℕ) → s.next ≤ base → (t : Tree ℕ) → apply (bound s) (raise base t) ≡ raise base t
