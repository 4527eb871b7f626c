-- When the end of a built-in predicate is what it is said to do.
use Rattle.std.specs.Prelude.{◌≡◌, ℕ, ◌+◌, List, [], ◌∷◌, ◌++◌, Some, None}
use Rattle.pl_terms.specs.Trees.{Tree}
use Rattle.unifier_model.specs.Substitution.{apply}
use Rattle.unifier_model.specs.Mgu.{mgu}
use Rattle.pl_unify.specs.declared.word.Ref.{Ref}
use Rattle.pl_unify.specs.State.{State, tree_at, tree_of_var, IsRef, Extends, bound}
use Rattle.builtin_model.specs.Faults.{Fault, instantiation, type_fault, domain_fault, max_arity, not_evaluable, evaluation}
use Rattle.builtin_model.specs.Deeds.{Deed, equal, differ, no, raise, halt}
use Rattle.pl_builtin_ends.specs.declared.done.Raised.{Raised}
use Rattle.pl_builtin_ends.specs.declared.done.Raised.TheVariants as R
use Rattle.pl_builtin_ends.specs.declared.done.Done.{Done}
use Rattle.pl_builtin_ends.specs.declared.done.Done.TheVariants as D

-- the error, with the tree of its place
abbrev pub fault_of : State → Raised → Fault ℕ
fault_of s R.Instantiation = instantiation
fault_of s (R.Type e at) = type_fault e (tree_at s at)
fault_of s (R.Domain d at) = domain_fault d (tree_at s at)
fault_of s R.MaxArity = max_arity
fault_of s (R.NotEvaluable f k) = not_evaluable f.0 k
fault_of s (R.Evaluation e) = evaluation e

-- the place of the error is one of the store
abbrev pub HasCulprit : State → Raised → Type 0
HasCulprit s R.Instantiation = Unit {0}
HasCulprit s (R.Type e at) = IsRef s at
HasCulprit s (R.Domain d at) = IsRef s at
HasCulprit s R.MaxArity = Unit {0}
HasCulprit s (R.NotEvaluable f k) = Unit {0}
HasCulprit s (R.Evaluation e) = Unit {0}

-- the unifier of the equations was applied to all, and so many variables were made
pub record Unifies (old new : State) (es : List (Tree ℕ × Tree ℕ)) (k : ℕ) : Type 0 where
  pub extends : Extends old new
  pub unifier : List (ℕ × Tree ℕ)
  pub solved : mgu es ≡ Some unifier
  pub bound : bound new ≡ bound old ++ unifier
  pub places : (r : Ref) → IsRef old r → tree_at new r ≡ apply unifier (tree_at old r)
  pub variables : (n : ℕ) → tree_of_var new n ≡ apply unifier (tree_of_var old n)
  pub next : new.next ≡ old.next + k

abbrev pub Succeeds : State → State → Deed ℕ → Type 0
Succeeds old new (equal es k) = Unifies old new es k
Succeeds old new (differ t u) = (new ≡ old) × (mgu ((t, u) ∷ []) ≡ None)
Succeeds old new no = ⊥
Succeeds old new (raise f) = ⊥
Succeeds old new (halt z) = ⊥

abbrev pub Fails : Deed ℕ → Type 0
Fails (equal es k) = mgu es ≡ None
Fails (differ t u) = (bs : List (ℕ × Tree ℕ)) × (mgu ((t, u) ∷ []) ≡ Some bs)
Fails no = Unit {0}
Fails (raise f) = ⊥
Fails (halt z) = ⊥

-- It succeeds, fails, throws or ends the run as is said, and the store is as before unless it succeeds.
abbrev pub Meets : State → State → Deed ℕ → Done → Type 0
Meets old new deed D.Yes = Succeeds old new deed
Meets old new deed D.No = (new ≡ old) × Fails deed
Meets old new deed (D.Raise r) = (new ≡ old) × (raise (fault_of old r) ≡ deed) × HasCulprit old r
Meets old new deed (D.Halt z) = (new ≡ old) × (halt z ≡ deed)

-- as `Meets`, but what was added is still there
abbrev pub Answers : State → State → Deed ℕ → Done → Type 0
Answers old new deed D.Yes = Succeeds old new deed
Answers old new deed D.No = Fails deed
Answers old new deed (D.Raise r) = (raise (fault_of old r) ≡ deed) × HasCulprit old r
Answers old new deed (D.Halt z) = halt z ≡ deed
