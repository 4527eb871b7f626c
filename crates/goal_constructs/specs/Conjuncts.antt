-- The goals of a conjunction in a store.
use Rattle.std.specs.Prelude.{◌≡◌, ◌+◌, ◌<◌, List, [], ◌∷◌, ◌++◌, map, Option, Some, None, ℕ}
use Rattle.pl_terms.specs.Trees.{Tree}
use Rattle.unifier_model.specs.Substitution.{size}
use Rattle.pl_unify.specs.declared.word.Ref.{Ref}
use Rattle.pl_unify.specs.State.{State, tree_at, IsRef}
use Rattle.pl_unify.specs.Making.{AreRefs}
use Rattle.goal_code.specs.declared.shape.ControlNames.{ControlNames}
use Rattle.goal_code.specs.Shapes.{conjuncts}

-- places with these trees were put last
pub record Appends (s : State) (old new : List Ref) (ts : List (Tree ℕ)) : Type 0 where
  pub items : List Ref
  pub list : new ≡ old ++ items
  pub places : AreRefs s items
  pub trees : map (tree_at s) items ≡ ts

-- the sides of a conjunction
pub record AreSides (c : ControlNames) (s : State) (t : Tree ℕ) (l r : Ref) : Type 0 where
  pub left : IsRef s l
  pub right : IsRef s r
  pub goals : conjuncts c t ≡ conjuncts c (tree_at s l) ++ conjuncts c (tree_at s r)
  pub smaller : size (tree_at s l) + size (tree_at s r) < size t

abbrev pub IsSplit : ControlNames → State → Tree ℕ → Option (Ref × Ref) → Type 0
IsSplit c s t None = conjuncts c t ≡ t ∷ []
IsSplit c s t (Some p) = AreSides c s t p.0 p.1

-- the goals at places, the first one next
abbrev pub goals_at : ControlNames → State → List Ref → List (Tree ℕ)
goals_at c s [] = []
goals_at c s (r ∷ rs) = conjuncts c (tree_at s r) ++ goals_at c s rs

abbrev pub nodes_at : State → List Ref → ℕ
nodes_at s [] = 0
nodes_at s (r ∷ rs) = size (tree_at s r) + nodes_at s rs

-- the goals of a term, of which those up to a place were put last, and those at the places of a stack are left
pub record UnderWay (c : ControlNames) (s : State) (old new : List Ref) (at : Ref) (stack : List Ref) (ts : List (Tree ℕ)) : Type 0 where
  pub items : List Ref
  pub list : new ≡ old ++ items
  pub places : AreRefs s items
  pub here : IsRef s at
  pub waiting : AreRefs s stack
  pub goals : ts ≡ map (tree_at s) items ++ (conjuncts c (tree_at s at) ++ goals_at c s stack)
