-- Blocks of places that are known to hold no unbound variable.
use Rattle.std.specs.Prelude.{◌≡◌, ℕ, zero, suc, ◌+◌, ◌<◌, ◌≤◌, List, [], ◌∷◌, ◌++◌, ◌⊎◌, length, take, drop, reverse, false, slice_index_or}
use Rattle.pl_terms.specs.Trees.{Tree, Trees, var}
use Rattle.unifier_model.specs.Substitution.{occurs, apply}
use Rattle.pl_unify.specs.declared.word.Word.{Word}
use Rattle.pl_unify.specs.declared.store.notes.Step.{Step}
use Rattle.pl_unify.specs.declared.store.notes.Step.TheVariants.{Visit, Done}
use Rattle.pl_unify.specs.Words.{Link, bases, bound_onto}
use Rattle.pl_unify.specs.State.{State, tree_at, places, IsStoreInside, links_of}
use Rattle.pl_unify.specs.Prefix.{trees}

-- no variable is in the tree
abbrev pub IsGround : Tree ℕ → Type 0
IsGround t = (n : ℕ) → occurs n t ≡ false

-- the places of a block hold no unbound variable
abbrev pub GroundBlock : State → ℕ → ℕ → Type 0
GroundBlock s first k = (i : ℕ) → i < k → IsGround (tree_at s (record { 0 = first + i }))

-- the trees of a block
abbrev pub block : State → ℕ → ℕ → Trees ℕ
block s first k = trees (take k (drop first (places s)))

-- the k places up to p hold no variable that the first links leave unbound
pub record GroundThen (cells : List Word) (links : List Link) (p k bindings : ℕ) : Type 0 where
  pub low : p < length cells
  pub ground : (q : ℕ) → q ≤ p → p < q + k → IsGround (apply (bound_onto (bases [] cells) [] (take bindings links)) (slice_index_or (bases [] cells) q (var 0)))

abbrev pub no_note : ℕ × ℕ
no_note = (0, 0)

-- a note stands for the block, and says how many bindings there were
pub record Noted (cells : List Word) (links : List Link) (noted : List (ℕ × ℕ)) (p k : ℕ) : Type 0 where
  pub index : ℕ
  pub here : index < length noted
  pub place : (slice_index_or noted index no_note).0 ≡ p
  pub ground : GroundThen cells links p k (slice_index_or noted index no_note).1

-- later notes have no fewer bindings
abbrev pub InOrder : List (ℕ × ℕ) → Type 0
InOrder noted = (i j : ℕ) → i ≤ j → j < length noted → (slice_index_or noted i no_note).1 ≤ (slice_index_or noted j no_note).1

pub record IsNotes (cells : List Word) (links : List Link) (ground : List ℕ) (noted : List (ℕ × ℕ)) : Type 0 where
  pub order : InOrder noted
  pub low : (i : ℕ) → i < length noted → (slice_index_or noted i no_note).1 ≤ length links
  pub notes : (p : ℕ) → 0 < slice_index_or ground p 0 → Noted cells links noted p (slice_index_or ground p 0)

-- what the fields of a store keep
pub record IsStoreFields (cells vars : List Word) (trail ground : List ℕ) (noted : List (ℕ × ℕ)) : Type 0 where
  pub inside : IsStoreInside cells vars trail
  pub notes : IsNotes cells (links_of vars trail) ground noted

-- a place whose note is left has all its notes left
pub record Forgotten (ground ground' : List ℕ) (noted noted' : List (ℕ × ℕ)) (bindings : ℕ) : Type 0 where
  pub order : InOrder noted'
  pub low : (i : ℕ) → i < length noted' → (slice_index_or noted' i no_note).1 ≤ bindings
  pub same : (p : ℕ) → 0 < slice_index_or ground' p 0 → slice_index_or ground' p 0 ≡ slice_index_or ground p 0
  pub kept : (p : ℕ) → 0 < slice_index_or ground' p 0 → (i : ℕ) → i < length noted → (slice_index_or noted i no_note).0 ≡ p
      → (i < length noted') × (slice_index_or noted' i no_note ≡ slice_index_or noted i no_note)

-- the steps of a walk
abbrev pub visits : ℕ → ℕ → List Step
visits first zero = []
visits first (suc k) = Visit first ∷ visits (first + 1) k

abbrev pub StepsIn : ℕ → List Step → Type 0
StepsIn n [] = Unit {0}
StepsIn n (Visit p ∷ es) = (p < n) × StepsIn n es
StepsIn n (Done first k met ∷ es) = (first + k ≤ n) × StepsIn n es

-- the trees that are still to be visited
abbrev pub visit_trees : State → List Step → List (Tree ℕ)
visit_trees s [] = []
visit_trees s (Visit p ∷ es) = tree_at s (record { 0 = p }) ∷ visit_trees s es
visit_trees s (Done first k met ∷ es) = visit_trees s es

-- a block at whose end no further unbound variable was met is ground, if what is still to be visited of it is
abbrev pub Honest : State → ℕ → Type 0 → List Step → Type 0
Honest s met P [] = Unit {0}
Honest s met P (Visit p ∷ es) = Honest s met (P × IsGround (tree_at s (record { 0 = p }))) es
Honest s met P (Done first k was ∷ es) = (was ≤ met) × (was ≡ met → P → GroundBlock s first k) × Honest s met P es

-- the variable is not in the places of a block
abbrev pub ClearBlock : State → ℕ → ℕ → ℕ → Type 0
ClearBlock s n first k = (i : ℕ) → i < k → occurs n (tree_at s (record { 0 = first + i })) ≡ false

-- the variable is not in a block, if it is not in what is still to be visited of it
abbrev pub Clears : State → ℕ → Type 0 → List Step → Type 0
Clears s n P [] = Unit {0}
Clears s n P (Visit p ∷ es) = Clears s n (P × (occurs n (tree_at s (record { 0 = p })) ≡ false)) es
Clears s n P (Done first k was ∷ es) = (P → ClearBlock s n first k) × Clears s n P es

-- at the last place of a block that was passed, how many places it has: the variable is in none of them
abbrev pub IsPassed : State → ℕ → List ℕ → Type 0
IsPassed s n passed = (p q : ℕ) → q ≤ p → p < q + slice_index_or passed p 0 → occurs n (tree_at s (record { 0 = q })) ≡ false

-- a block that is to be visited is ground, or its visits were put on
abbrev pub Entered : State → ℕ → ℕ → ℕ → List Step → List Step → Type 0
Entered s first k met old new = (GroundBlock s first k × (new ≡ old)) ⊎ (reverse new ≡ visits first k ++ (Done first k met ∷ reverse old))
