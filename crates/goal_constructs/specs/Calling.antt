-- Goals with arguments added.
use Rattle.std.specs.Prelude.{◌≡◌, ◌<◌, ℕ, List, [], ◌∷◌, ◌++◌, map, Option, Some, None, Result, Ok, Err}
use Rattle.pl_terms.specs.Trees.{Tree, var, int, atom, comp, Trees, nil, cons, append, back}
use Rattle.unifier_model.specs.Substitution.{size}
use Rattle.pl_unify.specs.declared.word.Ref.{Ref}
use Rattle.pl_unify.specs.State.{State, tree_at, IsRef}
use Rattle.pl_unify.specs.Making.{AreRefs}
use Rattle.builtin_model.specs.Naming.{Naming}
use Rattle.builtin_model.specs.Faults.{instantiation, fault_tree}
use Rattle.builtin_model.specs.Lists.{listed}
use Rattle.goal_model.specs.Bodies.{under, added, with_arguments, not_callable}
use Rattle.goal_constructs.specs.declared.constructs.Constructs.{Constructs}
use Rattle.goal_constructs.specs.declared.calling.Called.{Called}
use Rattle.goal_constructs.specs.declared.calling.Called.TheVariants as C
use Rattle.goal_constructs.specs.Constructs.{AreConstructs}
use Rattle.goal_constructs.specs.Goals.{arguments_of}

-- the place of a body, or of a ball
abbrev pub IsCalled : State → Result (Tree ℕ) (Tree ℕ) → Called → Type 0
IsCalled s r (C.Goal at) = IsRef s at × (r ≡ Ok (tree_at s at))
IsCalled s r (C.Ball at) = IsRef s at × (r ≡ Err (tree_at s at))

abbrev pub IsPlace : State → Called → Type 0
IsPlace s (C.Goal at) = IsRef s at
IsPlace s (C.Ball at) = IsRef s at

-- a term in front of which modules stand, the innermost one first, where f is `:`
abbrev pub wrapped : ℕ → List (Tree ℕ) → Result (Tree ℕ) (Tree ℕ) → Result (Tree ℕ) (Tree ℕ)
wrapped f [] r = r
wrapped f (m ∷ ms) r = wrapped f ms (under (λ u. comp f (cons m (cons u nil))) r)

-- arguments added to a term that is not M:T
abbrev pub added_here : Naming ℕ → Tree ℕ → Trees ℕ → Tree ℕ → ℕ → ℕ → Result (Tree ℕ) (Tree ℕ)
added_here n whole us (var v) f k = Err (fault_tree n instantiation f k)
added_here n whole us (int z) f k = Err (not_callable n whole f k)
added_here n whole us (atom s) f k = with_arguments n s us f k
added_here n whole us (comp s ts) f k = with_arguments n s (append ts us) f k

-- M:T with the places of M and T
pub record IsQualified (c : Constructs) (s : State) (t : Tree ℕ) (m u : Ref) : Type 0 where
  pub left : IsRef s m
  pub right : IsRef s u
  pub adds : (n : Naming ℕ) → AreConstructs n c → (whole : Tree ℕ) (us : Trees ℕ) (f k : ℕ)
      → added n whole us t f k ≡ under (λ v. comp c.names.colon.0 (cons (tree_at s m) (cons v nil))) (added n whole us (tree_at s u) f k)
  pub smaller : size (tree_at s u) < size t

abbrev pub IsSplitModule : Constructs → State → Tree ℕ → Option (Ref × Ref) → Type 0
IsSplitModule c s t None = (n : Naming ℕ) → AreConstructs n c → (whole : Tree ℕ) (us : Trees ℕ) (f k : ℕ) → added n whole us t f k ≡ added_here n whole us t f k
IsSplitModule c s t (Some p) = IsQualified c s t p.0 p.1

-- a walk to the innermost term
pub record Inner (c : Constructs) (s : State) (t : Tree ℕ) (modules : List Ref) (at : Ref) : Type 0 where
  pub here : IsRef s at
  pub places : AreRefs s modules
  pub adds : (n : Naming ℕ) → AreConstructs n c → (whole : Tree ℕ) (us : Trees ℕ) (f k : ℕ)
      → added n whole us t f k ≡ wrapped c.names.colon.0 (map (tree_at s) modules) (added n whole us (tree_at s at) f k)

-- arguments from a number on were put last, up to another one
pub record Pushed (s : State) (old new : List Ref) (t : Tree ℕ) (start k : ℕ) : Type 0 where
  pub items : List Ref
  pub list : new ≡ old ++ items
  pub places : AreRefs s items
  pub trees : listed (back start (arguments_of t)) ≡ map (tree_at s) items ++ listed (back k (arguments_of t))
