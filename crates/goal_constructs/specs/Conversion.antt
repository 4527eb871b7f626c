-- What is left of a conversion, and what it leads to.
use Rattle.std.specs.Prelude.{◌≡◌, ◌+◌, ◌*◌, ◌<◌, ℕ, zero, suc, List, [], ◌∷◌, length, map, Bool, true, false, Option, Some, None, option_and_then}
use Rattle.pl_atoms.specs.declared.names.NameId.{NameId}
use Rattle.pl_terms.specs.Trees.{Tree, comp, cons, nil}
use Rattle.unifier_model.specs.Substitution.{size}
use Rattle.pl_unify.specs.declared.word.Ref.{Ref}
use Rattle.pl_unify.specs.declared.word.View.TheVariants as V
use Rattle.pl_unify.specs.Shape.{root}
use Rattle.pl_unify.specs.State.{State, tree_at, IsRef}
use Rattle.pl_unify.specs.Making.{AreRefs}
use Rattle.builtin_model.specs.Naming.{Naming}
use Rattle.goal_model.specs.Bodies.{converted, joined}
use Rattle.goal_constructs.specs.declared.constructs.Constructs.{Constructs}
use Rattle.goal_constructs.specs.declared.conversion.Task.{Task}
use Rattle.goal_constructs.specs.declared.conversion.Task.TheVariants.{Convert, Join}
use Rattle.goal_constructs.specs.declared.conversion.Piece.{Piece}
use Rattle.goal_constructs.specs.declared.conversion.Piece.TheVariants as P
use Rattle.goal_constructs.specs.Constructs.{AreConstructs}

-- the place of a body, or none where there is no body
abbrev pub IsConverted : State → Option (Tree ℕ) → Option Ref → Type 0
IsConverted s o None = o ≡ None
IsConverted s o (Some at) = IsRef s at × (o ≡ Some (tree_at s at))

-- a control construct with a goal on each side
pub record IsControl (c : Constructs) (s : State) (t : Tree ℕ) (f : NameId) (l r : Ref) : Type 0 where
  pub root : root t ≡ V.Comp f 2
  pub left : IsRef s l
  pub right : IsRef s r
  pub converts : (n : Naming ℕ) → AreConstructs n c → converted n t ≡ joined f.0 (converted n (tree_at s l)) (converted n (tree_at s r))
  pub size : size t ≡ suc (size (tree_at s l) + size (tree_at s r))

-- what conversion makes of a term
abbrev pub IsPiece : Constructs → State → Tree ℕ → Piece → Type 0
IsPiece c s t P.Variable = (n : Naming ℕ) → AreConstructs n c → converted n t ≡ Some (comp c.names.call.0 (cons t nil))
IsPiece c s t P.Integer = (n : Naming ℕ) → AreConstructs n c → converted n t ≡ None
IsPiece c s t (P.Control f l r) = IsControl c s t f l r
IsPiece c s t P.Other = (n : Naming ℕ) → AreConstructs n c → converted n t ≡ Some t

-- where so many bodies are made, the tasks leave one
abbrev pub AreTasks : State → List Task → ℕ → Type 0
AreTasks s [] k = k ≡ 1
AreTasks s (Convert at ∷ ts) k = IsRef s at × AreTasks s ts (suc k)
AreTasks s (Join f at ∷ ts) zero = ⊥
AreTasks s (Join f at ∷ ts) (suc zero) = ⊥
AreTasks s (Join f at ∷ ts) (suc (suc k)) = IsRef s at × (root (tree_at s at) ≡ V.Comp f 2) × AreTasks s ts (suc k)

-- the bodies that the tasks make, the next one first, of these bodies, the last one first
abbrev pub after : Naming ℕ → State → List Task → List (Tree ℕ) → Option (List (Tree ℕ))
after n s [] bs = Some bs
after n s (Convert at ∷ ts) bs = option_and_then (λ b. after n s ts (b ∷ bs)) (converted n (tree_at s at))
after n s (Join f at ∷ ts) [] = None
after n s (Join f at ∷ ts) (r ∷ []) = None
after n s (Join f at ∷ ts) (r ∷ l ∷ bs) = after n s ts (comp f.0 (cons l (cons r nil)) ∷ bs)

abbrev pub weight : State → Task → ℕ
weight s (Convert at) = 2 * size (tree_at s at)
weight s (Join f at) = 1

abbrev pub owed : State → List Task → ℕ
owed s [] = 0
owed s (t ∷ ts) = weight s t + owed s ts

-- tasks and the places of the bodies that are made
pub record Sound (s : State) (ts : List Task) (done : List Ref) : Type 0 where
  pub tasks : AreTasks s ts (length done)
  pub places : AreRefs s done

-- the tasks make what others did, and are less
pub record Goes (c : Constructs) (old new : State) (ts : List Task) (done : List Ref) (us : List Task) (made : List Ref) : Type 0 where
  pub sound : Sound new us made
  pub same : (n : Naming ℕ) → AreConstructs n c → after n new us (map (tree_at new) made) ≡ after n old ts (map (tree_at old) done)
  pub less : owed new us < owed old ts

-- a step goes on, or shows that there is no body
abbrev pub IsStep : Constructs → State → State → List Task → List Ref → List Task → List Ref → Bool → Type 0
IsStep c old new ts done us made true = Goes c old new ts done us made
IsStep c old new ts done us made false = (n : Naming ℕ) → AreConstructs n c → after n old ts (map (tree_at old) done) ≡ None

-- a conversion is under way
pub record Converting (c : Constructs) (s : State) (ts : List Task) (done : List Ref) (t : Tree ℕ) : Type 0 where
  pub sound : Sound s ts done
  pub same : (n : Naming ℕ) → AreConstructs n c → after n s ts (map (tree_at s) done) ≡ option_and_then (λ b. Some (b ∷ [])) (converted n t)
