-- Walks over the terms of places, from the left.
use Rattle.std.specs.Prelude.{◌≡◌, ℕ, ◌+◌, ◌<◌, List, [], ◌∷◌, ◌++◌, Option, Some, None}
use Rattle.pl_terms.specs.Trees.{Tree, Trees, var, int, atom, comp, nil, back}
use Rattle.pl_terms.specs.Occurrence.{occurrences, all_occurrences}
use Rattle.unifier_model.specs.Substitution.{size, sizes}
use Rattle.pl_unify.specs.declared.word.Ref.{Ref}
use Rattle.pl_unify.specs.State.{State, tree_at, IsRef}
use Rattle.pl_unify.specs.Making.{AreRefs}

-- the variables of the terms of these places, each occurrence
abbrev pub occurrences_at : State → List Ref → List ℕ
occurrences_at s [] = []
occurrences_at s (r ∷ rs) = occurrences (tree_at s r) ++ occurrences_at s rs

-- their nodes
abbrev pub nodes_at : State → List Ref → ℕ
nodes_at s [] = 0
nodes_at s (r ∷ rs) = size (tree_at s r) + nodes_at s rs

-- the walk met a variable
pub record Met (s : State) (old new : List Ref) (n : ℕ) (at : Ref) : Type 0 where
  pub place : IsRef s at
  pub tree : tree_at s at ≡ var n
  pub occurrences : occurrences_at s old ≡ n ∷ occurrences_at s new
  pub places : AreRefs s new
  pub smaller : nodes_at s new < nodes_at s old

abbrev pub IsNext : State → List Ref → List Ref → Option (ℕ × Ref) → Type 0
IsNext s old new None = occurrences_at s old ≡ []
IsNext s old new (Some p) = Met s old new p.0 p.1

abbrev pub arguments_of : Tree ℕ → Trees ℕ
arguments_of (var n) = nil
arguments_of (int z) = nil
arguments_of (atom a) = nil
arguments_of (comp f ts) = ts

-- the arguments from the k-th on stand in front
pub record ArgumentsOn (s : State) (t : Tree ℕ) (k : ℕ) (old new : List Ref) : Type 0 where
  pub occurrences : occurrences_at s new ≡ all_occurrences (back k (arguments_of t)) ++ occurrences_at s old
  pub places : AreRefs s old → AreRefs s new
  pub nodes : nodes_at s new ≡ sizes (back k (arguments_of t)) + nodes_at s old

-- a term that is no variable was gone into
pub record Entered (s : State) (at : Ref) (old new : List Ref) : Type 0 where
  pub occurrences : occurrences_at s new ≡ occurrences (tree_at s at) ++ occurrences_at s old
  pub places : AreRefs s old → AreRefs s new
  pub smaller : nodes_at s new < size (tree_at s at) + nodes_at s old

abbrev pub IsVisit : State → Ref → List Ref → List Ref → Option ℕ → Type 0
IsVisit s at old new None = Entered s at old new
IsVisit s at old new (Some n) = (tree_at s at ≡ var n) × (new ≡ old)
